-- Constants that are found, against what they mean.
use Rattle.std.proofs.Common.{◌≡◌, ℕ, ◌^◌, ◌<◌, ◌≤◌, Bool, true, false, Some, Result, Ok, Err, refl, sym, ◌∙◌, ap, subst}
use Rattle.std.specs.Prelude.{nat_le, IfOk, IfErr}
use Rattle.std.proofs.Math.Nat.{mod-eq_of_lt}
use Rattle.std.proofs.Math.Bridge.{le_prop}
use Rattle.std.proofs.lemmas.Bool.{le-leb, and_from}
use Rattle.bit_ops.specs.declared.value.TheConstants.{MAX_WIDTH}
use Rattle.bit_ops.specs.declared.value.Bits.{Bits}
use Rattle.bit_ops.specs.Width.{IsWidth}
use Rattle.sv_base.specs.declared.refusal.Refusal.{Refusal}
use Rattle.sv_base.specs.declared.fault.Fault.{Fault}
use Rattle.sv_base.specs.declared.fault.Fault.TheVariants.{Refused, NoMemory}
use Rattle.sv_base.specs.Faults.{IfRefused}
use Rattle.const_eval.specs.declared.env.Const.{Const}
use Rattle.const_eval.specs.Literal.{is_width}
use Rattle.const_eval.specs.Meaning.{Meaning, own, assigned}
use Rattle.const_eval.specs.Constant.{IsConstant, IsAssigned}
use Rattle.const_eval.specs.Expressions.{Judged}
use Rattle.const_eval.specs.code.Agreeing.{Agrees}
use Rattle.width_rules.specs.Values.{bits_where, bits_of, const_of}

wide_test : (w : ℕ) → IsWidth w → is_width w ≡ true
wide_test w wide = and_from (nat_le 1 w) (nat_le w MAX_WIDTH) (le-leb 1 w wide.0) (le-leb w MAX_WIDTH wide.1)

pub bits_width : (w a : ℕ) → IsWidth w → (bits_of w a).width ≡ w
bits_width w a wide = by_test (is_width w) refl where
  by_test : (b : Bool) (is : is_width w ≡ b) → (bits_where w a b is).width ≡ w
  by_test true is = refl
  by_test false is = absurd (let clash : false ≡ true = sym is ∙ wide_test w wide in cc)

bits_word : (w a : ℕ) → IsWidth w → a < 2 ^ w → (bits_of w a).word ≡ a
bits_word w a wide small = by_test (is_width w) refl where
  by_test : (b : Bool) (is : is_width w ≡ b) → (bits_where w a b is).word ≡ a
  by_test true is = mod-eq_of_lt small
  by_test false is = absurd (let clash : false ≡ true = sym is ∙ wide_test w wide in cc)

-- a value is told by its size and its word
abbrev made : (w a : ℕ) → 1 ≤ w → w ≤ MAX_WIDTH → a < 2 ^ w → Bits
made w a some most small = record { width = w; word = a; positive = some; within = most; fits = small }

same_proofs : (w a : ℕ) (p q : 1 ≤ w) (r s : w ≤ MAX_WIDTH) (t v : a < 2 ^ w) → made w a p r t ≡ made w a q s v
same_proofs w a p q r s t v =
    ap (λ x. made w a x r t) (le_prop p q) ∙ ap (λ x. made w a q x t) (le_prop r s) ∙ ap (λ x. made w a q s x) (le_prop t v)

same_bits : (a b : Bits) → a.width ≡ b.width → a.word ≡ b.word → a ≡ b
same_bits a b width word =
    subst (λ w. (p : 1 ≤ w) (q : w ≤ MAX_WIDTH) (r : b.word < 2 ^ w) → a ≡ made w b.word p q r) width
    (subst (λ x. (p : 1 ≤ a.width) (q : a.width ≤ MAX_WIDTH) (r : x < 2 ^ a.width) → a ≡ made a.width x p q r) word
    (λ p q r. same_proofs a.width a.word a.positive p a.within q a.fits r))
    b.positive b.within b.fits

-- a value is the one of its size and its word
pub bits_are : (b : Bits) (w a : ℕ) → b.width ≡ w → b.word ≡ a → b ≡ bits_of w a
bits_are b w a width word =
    let wide : IsWidth w = subst IsWidth width (b.positive, b.within) in
    let small : a < 2 ^ w = subst (λ n. a < 2 ^ n) width (subst (λ x. x < 2 ^ b.width) word b.fits) in
    same_bits b (bits_of w a) (width ∙ sym (bits_width w a wide)) (word ∙ sym (bits_word w a wide small))

abbrev const_made : Bits → Bool → Const
const_made value signed = record { value = value; signed = signed }

same_const : (c d : Const) → c.value ≡ d.value → c.signed ≡ d.signed → c ≡ d
same_const c d value signed = ap (λ v. const_made v c.signed) value ∙ ap (const_made d.value) signed

-- a constant is the one of what it means
const_is : (c : Const) (m : Meaning) → IsConstant (Ok m) c → c ≡ const_of m
const_is c m h = same_const c (const_of m) (bits_are c.value m.size (own m) h.0 h.2) h.1

-- what is found agrees with what is judged
agreed : {X : Type 0} (R : X → Judged → Type 0) (S : X → Meaning → Type 0) → ((x : X) (m : Meaning) → R x (Ok m) → S x m)
    → ((x : X) (refusal : Refusal) → R x (Err refusal) → ⊥) → (j : Judged) (r : Result X Fault) → IfOk r (λ x. R x j)
    → IfErr r (IfRefused (λ refusal. j ≡ Err refusal)) → Agrees S r j
agreed R S ok bad (Ok m) (Ok x) given told = ok x m given
agreed R S ok bad (Err refusal) (Ok x) given told = absurd (bad x refusal given)
agreed R S ok bad (Ok m) (Err (Refused refusal)) given told = absurd (let clash : Ok m ≡ Err refusal = told in cc)
agreed R S ok bad (Ok m) (Err NoMemory) given told = tt
agreed R S ok bad (Err refusal) (Err (Refused told)) given is = let same : Err refusal ≡ Err told = is in cc
agreed R S ok bad (Err refusal) (Err NoMemory) given told = tt

pub constant_found : (j : Judged) (r : Result Const Fault) → IfOk r (IsConstant j) → IfErr r (IfRefused (λ refusal. j ≡ Err refusal))
    → Agrees (λ c m. c ≡ const_of m) r j
constant_found = agreed (λ c j. IsConstant j c) (λ c m. c ≡ const_of m) const_is (λ c refusal h. h)

pub assigned_found : (width : ℕ) (j : Judged) (r : Result Bits Fault) → IfOk r (IsAssigned width j)
    → IfErr r (IfRefused (λ refusal. j ≡ Err refusal)) → Agrees (λ b m. b ≡ bits_of width (assigned (Some width) false m)) r j
assigned_found width =
    agreed (λ b j. IsAssigned width j b) (λ b m. b ≡ bits_of width (assigned (Some width) false m))
    (λ b m h. bits_are b width (assigned (Some width) false m) h.0 h.1) (λ b refusal h. h)
