-- The constants of meanings.
use Rattle.std.proofs.Common.{◌≡◌, ℕ, ◌^◌, ◌<◌, ◌≤◌, Bool, true, false, Result, Ok, Err, refl, sym, ◌∙◌, ap, subst, arith}
use Rattle.std.specs.Prelude.{nat_le, IfOk, IfErr}
use Rattle.std.proofs.Math.Nat.{mod-eq_of_lt}
use Rattle.std.proofs.Math.Bridge.{le_prop}
use Rattle.std.proofs.lemmas.Bool.{le-leb, and_from}
use Rattle.bit_ops.specs.declared.value.TheConstants.{MAX_WIDTH}
use Rattle.bit_ops.specs.declared.value.Bits.{Bits}
use Rattle.bit_ops.specs.Width.{IsWidth}
use Rattle.sv_base.specs.declared.fault.Fault.{Fault}
use Rattle.sv_base.specs.declared.fault.Fault.TheVariants.{Refused, NoMemory}
use Rattle.sv_base.specs.Faults.{IfRefused}
use Rattle.const_eval.specs.declared.env.Const.{Const}
use Rattle.const_eval.specs.Literal.{is_width}
use Rattle.const_eval.specs.Meaning.{Meaning, own}
use Rattle.const_eval.specs.Sized.{IsSized}
use Rattle.const_eval.specs.Alike.{Alike}
use Rattle.const_eval.specs.Constant.{IsConstant}
use Rattle.const_eval.specs.Expressions.{Judged}
use Rattle.const_eval.specs.code.Agreeing.{Agrees}
use Rattle.width_rules.specs.Values.{bits_where, bits_of, const_of, constant_of}
use Rattle.width_rules.specs.code.Standing.{IsFound}

wide_test : (w : ℕ) → IsWidth w → is_width w ≡ true
wide_test w wide = and_from (nat_le 1 w) (nat_le w MAX_WIDTH) (le-leb 1 w wide.0) (le-leb w MAX_WIDTH wide.1)

pub bits_width : (w a : ℕ) → IsWidth w → (bits_of w a).width ≡ w
bits_width w a wide = by_test (is_width w) refl where
  by_test : (b : Bool) (is : is_width w ≡ b) → (bits_where w a b is).width ≡ w
  by_test true is = refl
  by_test false is = absurd (let clash : false ≡ true = sym is ∙ wide_test w wide in cc)

pub bits_word : (w a : ℕ) → IsWidth w → a < 2 ^ w → (bits_of w a).word ≡ a
bits_word w a wide small = by_test (is_width w) refl where
  by_test : (b : Bool) (is : is_width w ≡ b) → (bits_where w a b is).word ≡ a
  by_test true is = mod-eq_of_lt small
  by_test false is = absurd (let clash : false ≡ true = sym is ∙ wide_test w wide in cc)

-- the constant of a meaning has its size, sign and value
pub found_of : (m : Meaning) → IsSized m → IsFound (const_of m) m
found_of m sized = (bits_width m.size (own m) sized.size, refl, bits_word m.size (own m) sized.size (sized.value m.size m.signed (omega arith)))

pub constant_found : (j : Judged) → IfOk j IsSized → Alike IsFound (constant_of j) j
constant_found (Ok m) sized = found_of m sized
constant_found (Err refusal) sized = refl

-- ---- what is found by the code

-- a value is told by its size and its word
abbrev made : (w a : ℕ) → 1 ≤ w → w ≤ MAX_WIDTH → a < 2 ^ w → Bits
made w a some most small = record { width = w; word = a; positive = some; within = most; fits = small }

same_proofs : (w a : ℕ) (p q : 1 ≤ w) (r s : w ≤ MAX_WIDTH) (t v : a < 2 ^ w) → made w a p r t ≡ made w a q s v
same_proofs w a p q r s t v =
    ap (λ x. made w a x r t) (le_prop p q) ∙ ap (λ x. made w a q x t) (le_prop r s) ∙ ap (λ x. made w a q s x) (le_prop t v)

pub same_bits : (a b : Bits) → a.width ≡ b.width → a.word ≡ b.word → a ≡ b
same_bits a b width word =
    subst (λ w. (p : 1 ≤ w) (q : w ≤ MAX_WIDTH) (r : b.word < 2 ^ w) → a ≡ made w b.word p q r) width
    (subst (λ x. (p : 1 ≤ a.width) (q : a.width ≤ MAX_WIDTH) (r : x < 2 ^ a.width) → a ≡ made a.width x p q r) word
    (λ p q r. same_proofs a.width a.word a.positive p a.within q a.fits r))
    b.positive b.within b.fits

-- a value is the one of its size and its word
pub bits_are : (b : Bits) (w a : ℕ) → b.width ≡ w → b.word ≡ a → b ≡ bits_of w a
bits_are b w a width word =
    let wide : IsWidth w = subst IsWidth width (b.positive, b.within) in
    let small : a < 2 ^ w = subst (λ n. a < 2 ^ n) width (subst (λ x. x < 2 ^ b.width) word b.fits) in
    same_bits b (bits_of w a) (width ∙ sym (bits_width w a wide)) (word ∙ sym (bits_word w a wide small))

abbrev const_made : Bits → Bool → Const
const_made value signed = record { value = value; signed = signed }

same_const : (c d : Const) → c.value ≡ d.value → c.signed ≡ d.signed → c ≡ d
same_const c d value signed = ap (λ v. const_made v c.signed) value ∙ ap (const_made d.value) signed

const_is : (c : Const) (m : Meaning) → IsConstant (Ok m) c → c ≡ const_of m
const_is c m h = same_const c (const_of m) (bits_are c.value m.size (own m) h.0 h.2) h.1

pub constant_told : (j : Judged) (r : Result Const Fault) → IfOk r (IsConstant j) → IfErr r (IfRefused (λ refusal. j ≡ Err refusal)) → Agrees (λ c d. c ≡ d) r (constant_of j)
constant_told (Ok m) (Ok c) given told = const_is c m given
constant_told (Err refusal) (Ok c) given told = absurd given
constant_told (Ok m) (Err (Refused refusal)) given told = absurd (let clash : Ok m ≡ Err refusal = told in cc)
constant_told (Ok m) (Err NoMemory) given told = tt
constant_told (Err refusal) (Err (Refused told)) given is = let same : Err refusal ≡ Err told = is in cc
constant_told (Err refusal) (Err NoMemory) given told = tt
