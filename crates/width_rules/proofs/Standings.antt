-- What was measured stands for a meaning: how operators keep that.
use Rattle.std.proofs.Common.{◌≡◌, ℕ, ◌-◌, ◌^◌, ◌≤◌, ◌<◌, Bool, true, false, List, [], ◌∷◌, refl, sym, ◌∙◌, ap, subst, arith, max, ◌==◌, ◌&&◌, ◌||◌, not, if◌then◌else◌, bit_and, bit_or}
use Rattle.std.proofs.lemmas.Bool.Decides.{nat_tests}
use Rattle.bit_ops.specs.declared.value.TheConstants.{MAX_WIDTH}
use Rattle.bit_ops.specs.Width.{IsWidth, WidthsFit}
use Rattle.bit_ops.specs.Rows.{value_of}
use Rattle.bit_ops.specs.Meaning.{signed_of, word_of, sext_of, red_or_of, mux_of}
use Rattle.bit_ops.specs.declared.operation.Op.{Op}
use Rattle.bit_ops.specs.declared.operation.Op.TheVariants as op
use Rattle.net_ir.specs.declared.term.Term.{Term}
use Rattle.net_ir.specs.Value.{AreWordsOf, size, val}
use Rattle.net_ir.specs.Lawful.{IsLawful}
use Rattle.net_ir.specs.Terms.{Has, has_one, has_two, has_three}
use Rattle.const_eval.specs.declared.pending.Change.{Change}
use Rattle.const_eval.specs.declared.pending.Change.TheVariants.{Negate, Invert}
use Rattle.const_eval.specs.declared.pending.Operation.{Operation}
use Rattle.const_eval.specs.declared.pending.Operation.TheVariants.{Add, Subtract, Multiply, Divide, Remainder, And, Or, Xor, Xnor}
use Rattle.const_eval.specs.declared.shape.Reduction.{Reduction}
use Rattle.const_eval.specs.declared.shape.Reduction.TheVariants as reduction
use Rattle.const_eval.specs.declared.shape.Comparison.{Comparison}
use Rattle.const_eval.specs.declared.shape.Comparison.TheVariants.{Equal, Less, Greater}
use Rattle.const_eval.specs.Meaning.{Meaning, own, holds, extended, alone, each_bit, combined, moved, chosen, meeting, are_signed}
use Rattle.const_eval.specs.Operations.{changed_by, combined_by}
use Rattle.const_eval.specs.Shapes.{turned, reduced_by, compared_by}
use Rattle.width_rules.specs.declared.pending.Shift.{Shift}
use Rattle.width_rules.specs.declared.pending.Shift.TheVariants.{Left, Right, ArithmeticRight}
use Rattle.width_rules.specs.declared.pending.Pending.{Alone, Changed, Combined, Shifted, Chosen}
use Rattle.width_rules.specs.declared.measured.Measured.{Measured}
use Rattle.width_rules.specs.Building.{one_of, two_of, choice_of, extended_to, change_by, combined_to, shift_by, turned_to, comparison_to, reduction_by}
use Rattle.width_rules.specs.Waiting.{term_in, own_term, holds_term}
use Rattle.width_rules.specs.code.Waiting.{shifted_by, IsBitwise, logical_by}
use Rattle.width_rules.specs.code.Standing.{Stands}
use Rattle.width_rules.proofs.Pendings.{in_alone, in_changed, in_combined, in_shifted, in_chosen}

-- laws that the code has by calls: a lawful term's value is a word of its size, and a word is that of its signed number
abbrev pub ValuesFit : Type 0
ValuesFit = (ws u : List ℕ) (t : Term) → AreWordsOf ws u → IsLawful ws t → val ws u t < 2 ^ size ws t

abbrev pub WordsOfSigned : Type 0
WordsOfSigned = (w a : ℕ) → a < 2 ^ w → word_of w (signed_of w a) ≡ a

pub small : ValuesFit → (ws u : List ℕ) (t : Term) (w a : ℕ) → AreWordsOf ws u → Has ws u t w a → a < 2 ^ w
small law ws u t w a words h = subst (λ n. n < 2 ^ w) h.word (subst (λ n. val ws u t < 2 ^ n) h.size (law ws u t words h.lawful))

pub one_wide : IsWidth 1
one_wide = (omega arith, omega arith)

-- ---- a term by itself

pub same_test : (a b : ℕ) → (a == b) ≡ true → a ≡ b
same_test a b h = grind (arith, nat_tests)

pub extended_has : ValuesFit → WordsOfSigned → (ws u : List ℕ) (w : ℕ) (t : Term) (x n : ℕ) (s : Bool) → AreWordsOf ws u → IsWidth w → Has ws u t w x → w ≤ n → n ≤ MAX_WIDTH →
    Has ws u (extended_to n s w t) n (extended s w n x)
extended_has law word ws u w t x n s words wide h least most = by_test (w == n) refl s where
  by_test : (same : Bool) → (w == n) ≡ same → (s : Bool) → Has ws u (if same then t else one_of (if s then op.Sext else op.Zext) n t) n (extended s w n x)
  by_test true is true =
      subst (λ k. Has ws u t k (sext_of w k x)) (same_test w n is) (subst (λ y. Has ws u t w y) (sym (word w x (small law ws u t w x words h))) h)
  by_test true is false = subst (λ k. Has ws u t k x) (same_test w n is) h
  by_test false is true = has_one ws u op.Sext n 0 t w x (omega (arith, wide), most) least h
  by_test false is false = has_one ws u op.Zext n 0 t w x (omega (arith, wide), most) least h

pub alone_stands : ValuesFit → WordsOfSigned → (ws u : List ℕ) (w : ℕ) (t : Term) (signed : Bool) (x : ℕ) → AreWordsOf ws u → IsWidth w → Has ws u t w x →
    Stands ws u (record { size = w; signed = signed; pending = Alone w t }) (alone w signed x)
alone_stands law word ws u w t signed x words wide h = record {
  words = words;
  width = wide;
  size = refl;
  signed = refl;
  terms = λ n s least most. subst (λ r. Has ws u r n (extended s w n x)) (sym (in_alone w t n s)) (extended_has law word ws u w t x n s words wide h least most);
}

pub own_has : (ws u : List ℕ) (m : Measured) (a : Meaning) → Stands ws u m a → Has ws u (own_term m) a.size (own a)
own_has ws u m a h =
    subst (λ s. Has ws u (term_in m.pending m.size m.signed) a.size (a.value a.size s)) h.signed
    (subst (λ n. Has ws u (term_in m.pending n m.signed) a.size (a.value a.size m.signed)) (sym h.size) (h.terms a.size m.signed (omega arith) h.width.1))

pub holds_has : (ws u : List ℕ) (m : Measured) (a : Meaning) → Stands ws u m a → Has ws u (holds_term m) 1 (red_or_of (own a))
holds_has ws u m a h = has_one ws u op.RedOr 1 0 (own_term m) a.size (own a) one_wide refl (own_has ws u m a h)

-- ---- in the context

context_width : (w n : ℕ) → IsWidth w → w ≤ n → n ≤ MAX_WIDTH → IsWidth n
context_width w n wide least most = (omega (arith, wide), most)

changed_has : (ws u : List ℕ) (change : Change) (t : Term) (n x : ℕ) → IsWidth n → Has ws u t n x → Has ws u (one_of (change_by change) n t) n (changed_by change n x)
changed_has ws u Negate t n x wide h = has_one ws u op.Neg n 0 t n x wide refl h
changed_has ws u Invert t n x wide h = has_one ws u op.Not n 0 t n x wide refl h

pub changed_stands : (ws u : List ℕ) (change : Change) (m : Measured) (a : Meaning) → Stands ws u m a →
    Stands ws u (record { size = m.size; signed = m.signed; pending = Changed change m.pending }) (each_bit (changed_by change) a)
changed_stands ws u change m a h = record {
  words = h.words;
  width = h.width;
  size = h.size;
  signed = h.signed;
  terms = λ n s least most. subst (λ r. Has ws u r n (changed_by change n (a.value n s))) (sym (in_changed change m.pending n s))
      (changed_has ws u change (term_in m.pending n s) n (a.value n s) (context_width a.size n h.width least most) (h.terms n s least most));
}

combined_has : (ws u : List ℕ) (operation : Operation) (t r : Term) (n : ℕ) (s : Bool) (x y : ℕ) → IsWidth n → Has ws u t n x → Has ws u r n y →
    Has ws u (combined_to operation n s t r) n (combined_by operation n s x y)
combined_has ws u Add t r n s x y wide h k = has_two ws u op.Add n 0 t r n x n y wide (refl, refl) h k
combined_has ws u Subtract t r n s x y wide h k = has_two ws u op.Sub n 0 t r n x n y wide (refl, refl) h k
combined_has ws u Multiply t r n s x y wide h k = has_two ws u op.Mul n 0 t r n x n y wide (refl, refl) h k
combined_has ws u Divide t r n true x y wide h k = has_two ws u op.DivS n 0 t r n x n y wide (refl, refl) h k
combined_has ws u Divide t r n false x y wide h k = has_two ws u op.DivU n 0 t r n x n y wide (refl, refl) h k
combined_has ws u Remainder t r n true x y wide h k = has_two ws u op.ModS n 0 t r n x n y wide (refl, refl) h k
combined_has ws u Remainder t r n false x y wide h k = has_two ws u op.ModU n 0 t r n x n y wide (refl, refl) h k
combined_has ws u And t r n s x y wide h k = has_two ws u op.And n 0 t r n x n y wide (refl, refl) h k
combined_has ws u Or t r n s x y wide h k = has_two ws u op.Or n 0 t r n x n y wide (refl, refl) h k
combined_has ws u Xor t r n s x y wide h k = has_two ws u op.Xor n 0 t r n x n y wide (refl, refl) h k
combined_has ws u Xnor t r n s x y wide h k =
    has_one ws u op.Not n 0 (two_of op.Xor n t r) n _ wide refl (has_two ws u op.Xor n 0 t r n x n y wide (refl, refl) h k)

-- where two operands meet
meeting_width : (ws u : List ℕ) (m k : Measured) (a b : Meaning) → Stands ws u m a → Stands ws u k b → IsWidth (meeting a b)
meeting_width ws u m k a b h j = (omega (arith, h.width, j.width), omega (arith, h.width, j.width))

pub combined_stands : (ws u : List ℕ) (operation : Operation) (m k : Measured) (a b : Meaning) → Stands ws u m a → Stands ws u k b →
    Stands ws u (record { size = max m.size k.size; signed = m.signed && k.signed; pending = Combined operation m.pending k.pending }) (combined (combined_by operation) a b)
combined_stands ws u operation m k a b h j = record {
  words = h.words;
  width = meeting_width ws u m k a b h j;
  size = ap (λ n. max n k.size) h.size ∙ ap (max a.size) j.size;
  signed = ap (λ s. s && k.signed) h.signed ∙ ap (λ s. a.signed && s) j.signed;
  terms = λ n s least most.
      subst (λ r. Has ws u r n (combined_by operation n s (a.value n s) (b.value n s))) (sym (in_combined operation m.pending k.pending n s))
      (combined_has ws u operation (term_in m.pending n s) (term_in k.pending n s) n s (a.value n s) (b.value n s)
      (context_width (meeting a b) n (meeting_width ws u m k a b h j) least most)
      (h.terms n s (omega (arith, least)) most) (j.terms n s (omega (arith, least)) most));
}

shifted_has : (ws u : List ℕ) (shift : Shift) (t amount : Term) (n : ℕ) (s : Bool) (x m y : ℕ) → IsWidth n → Has ws u t n x → Has ws u amount m y →
    Has ws u (two_of (shift_by shift s) n t amount) n (shifted_by shift n s x y)
shifted_has ws u Left t amount n s x m y wide h k = has_two ws u op.Shl n 0 t amount n x m y wide refl h k
shifted_has ws u Right t amount n s x m y wide h k = has_two ws u op.ShrU n 0 t amount n x m y wide refl h k
shifted_has ws u ArithmeticRight t amount n true x m y wide h k = has_two ws u op.ShrS n 0 t amount n x m y wide refl h k
shifted_has ws u ArithmeticRight t amount n false x m y wide h k = has_two ws u op.ShrU n 0 t amount n x m y wide refl h k

pub shifted_stands : (ws u : List ℕ) (shift : Shift) (m k : Measured) (a b : Meaning) → Stands ws u m a → Stands ws u k b →
    Stands ws u (record { size = m.size; signed = m.signed; pending = Shifted shift m.pending (own_term k) }) (moved (shifted_by shift) a b)
shifted_stands ws u shift m k a b h j = record {
  words = h.words;
  width = h.width;
  size = h.size;
  signed = h.signed;
  terms = λ n s least most.
      subst (λ r. Has ws u r n (shifted_by shift n s (a.value n s) (own b))) (sym (in_shifted shift m.pending (own_term k) n s))
      (shifted_has ws u shift (term_in m.pending n s) (own_term k) n s (a.value n s) b.size (own b) (context_width a.size n h.width least most)
      (h.terms n s least most) (own_has ws u k b j));
}

-- a choice by whether something is not 0
chosen_value : (c x y : ℕ) → mux_of (red_or_of c) x y ≡ (if not (c == 0) then x else y)
chosen_value c x y = by_test (c == 0) where
  by_test : (zero : Bool) → mux_of (if zero then 0 else 1) x y ≡ (if not zero then x else y)
  by_test true = refl
  by_test false = refl

pub chosen_stands : (ws u : List ℕ) (l m k : Measured) (c a b : Meaning) → Stands ws u l c → Stands ws u m a → Stands ws u k b →
    Stands ws u (record { size = max m.size k.size; signed = m.signed && k.signed; pending = Chosen (holds_term l) m.pending k.pending }) (chosen c a b)
chosen_stands ws u l m k c a b g h j = record {
  words = h.words;
  width = meeting_width ws u m k a b h j;
  size = ap (λ n. max n k.size) h.size ∙ ap (max a.size) j.size;
  signed = ap (λ s. s && k.signed) h.signed ∙ ap (λ s. a.signed && s) j.signed;
  terms = λ n s least most.
      subst (λ r. Has ws u r n (if holds c then a.value n s else b.value n s)) (sym (in_chosen (holds_term l) m.pending k.pending n s))
      (subst (λ y. Has ws u (choice_of n (holds_term l) (term_in m.pending n s) (term_in k.pending n s)) n y) (chosen_value (own c) (a.value n s) (b.value n s))
      (has_three ws u op.Mux n 0 (holds_term l) (term_in m.pending n s) (term_in k.pending n s) 1 (red_or_of (own c)) n (a.value n s) n (b.value n s)
      (context_width (meeting a b) n (meeting_width ws u m k a b h j) least most) (refl, refl, refl)
      (holds_has ws u l c g) (h.terms n s (omega (arith, least)) most) (j.terms n s (omega (arith, least)) most)));
}

-- ---- one bit

pub turned_has : (ws u : List ℕ) (turn : Bool) (t : Term) (x : ℕ) → Has ws u t 1 x → Has ws u (turned_to turn t) 1 (turned turn x)
turned_has ws u true t x h = has_one ws u op.Not 1 0 t 1 x one_wide refl h
turned_has ws u false t x h = h

reduction_has : (ws u : List ℕ) (which : Reduction) (t : Term) (n x : ℕ) → Has ws u t n x → (o : Op) → o ≡ reduction_by which → Has ws u (one_of o 1 t) 1 (reduced_by which n x)
reduction_has ws u reduction.And t n x h o is = rw is (has_one ws u op.RedAnd 1 0 t n x one_wide refl h)
reduction_has ws u reduction.Or t n x h o is = rw is (has_one ws u op.RedOr 1 0 t n x one_wide refl h)
reduction_has ws u reduction.Xor t n x h o is = rw is (has_one ws u op.RedXor 1 0 t n x one_wide refl h)

-- the bit of a reduction, turned or not
pub reduced_has : (ws u : List ℕ) (which : Reduction) (turn : Bool) (m : Measured) (a : Meaning) → Stands ws u m a →
    Has ws u (turned_to turn (one_of (reduction_by which) 1 (own_term m))) 1 (turned turn (reduced_by which a.size (own a)))
reduced_has ws u which turn m a h =
    turned_has ws u turn (one_of (reduction_by which) 1 (own_term m)) _ (reduction_has ws u which (own_term m) a.size (own a) (own_has ws u m a h) (reduction_by which) refl)

comparison_has : (ws u : List ℕ) (comparison : Comparison) (s : Bool) (t r : Term) (n x y : ℕ) → Has ws u t n x → Has ws u r n y →
    Has ws u (comparison_to comparison s t r) 1 (compared_by comparison n s x y)
comparison_has ws u Equal s t r n x y h k = has_two ws u op.Eq 1 0 t r n x n y one_wide (refl, refl) h k
comparison_has ws u Less true t r n x y h k = has_two ws u op.LtS 1 0 t r n x n y one_wide (refl, refl) h k
comparison_has ws u Less false t r n x y h k = has_two ws u op.LtU 1 0 t r n x n y one_wide (refl, refl) h k
comparison_has ws u Greater true t r n x y h k = has_two ws u op.LtS 1 0 r t n y n x one_wide (refl, refl) k h
comparison_has ws u Greater false t r n x y h k = has_two ws u op.LtU 1 0 r t n y n x one_wide (refl, refl) k h

-- the bit of a comparison, turned or not
pub compared_has : (ws u : List ℕ) (comparison : Comparison) (turn : Bool) (m k : Measured) (a b : Meaning) (n : ℕ) (s : Bool) → Stands ws u m a → Stands ws u k b →
    n ≡ max m.size k.size → s ≡ (m.signed && k.signed) →
    Has ws u (turned_to turn (comparison_to comparison s (term_in m.pending n s) (term_in k.pending n s))) 1
    (turned turn (compared_by comparison (meeting a b) (are_signed a b) (a.value (meeting a b) (are_signed a b)) (b.value (meeting a b) (are_signed a b))))
compared_has ws u comparison turn m k a b n s h j size signed =
    let wide = meeting_width ws u m k a b h j in
    let size_is : n ≡ meeting a b = size ∙ ap (λ i. max i k.size) h.size ∙ ap (max a.size) j.size in
    let signed_is : s ≡ are_signed a b = signed ∙ ap (λ i. i && k.signed) h.signed ∙ ap (λ i. a.signed && i) j.signed in
    let v = meeting a b in
    let q = are_signed a b in
    rw (size_is, signed_is)
    (turned_has ws u turn (comparison_to comparison q (term_in m.pending v q) (term_in k.pending v q)) (compared_by comparison v q (a.value v q) (b.value v q))
    (comparison_has ws u comparison q (term_in m.pending v q) (term_in k.pending v q) v (a.value v q) (b.value v q)
    (h.terms v q (omega arith) wide.1) (j.terms v q (omega arith) wide.1)))

denied_value : (c : ℕ) → 1 - red_or_of c ≡ (if not (not (c == 0)) then 1 else 0)
denied_value c = by_test (c == 0) where
  by_test : (zero : Bool) → 1 - (if zero then 0 else 1) ≡ (if not (not zero) then 1 else 0)
  by_test true = refl
  by_test false = refl

-- `!` of what was measured
pub denied_has : (ws u : List ℕ) (m : Measured) (a : Meaning) → Stands ws u m a → Has ws u (one_of op.Not 1 (holds_term m)) 1 (if not (holds a) then 1 else 0)
denied_has ws u m a h =
    subst (λ y. Has ws u (one_of op.Not 1 (holds_term m)) 1 y) (denied_value (own a))
    (has_one ws u op.Not 1 0 (holds_term m) 1 (red_or_of (own a)) one_wide refl (holds_has ws u m a h))

-- whether both are not 0, or one is
logical_and : (x y : ℕ) → bit_and (red_or_of x) (red_or_of y) ≡ (if not (x == 0) && not (y == 0) then 1 else 0)
logical_and x y = by_tests (x == 0) (y == 0) where
  by_tests : (a b : Bool) → bit_and (if a then 0 else 1) (if b then 0 else 1) ≡ (if not a && not b then 1 else 0)
  by_tests true true = refl
  by_tests true false = refl
  by_tests false true = refl
  by_tests false false = refl

logical_or : (x y : ℕ) → bit_or (red_or_of x) (red_or_of y) ≡ (if not (x == 0) || not (y == 0) then 1 else 0)
logical_or x y = by_tests (x == 0) (y == 0) where
  by_tests : (a b : Bool) → bit_or (if a then 0 else 1) (if b then 0 else 1) ≡ (if not a || not b then 1 else 0)
  by_tests true true = refl
  by_tests true false = refl
  by_tests false true = refl
  by_tests false false = refl

both_has : (ws u : List ℕ) (o : Op) (m k : Measured) (a b : Meaning) (x : ℕ) → Stands ws u m a → Stands ws u k b → WidthsFit o 1 0 (1 ∷ 1 ∷ []) →
    value_of o 1 0 ((1, red_or_of (own a)) ∷ (1, red_or_of (own b)) ∷ []) ≡ x → Has ws u (two_of o 1 (holds_term m) (holds_term k)) 1 x
both_has ws u o m k a b x h j fit is =
    subst (λ y. Has ws u (two_of o 1 (holds_term m) (holds_term k)) 1 y) is
    (has_two ws u o 1 0 (holds_term m) (holds_term k) 1 (red_or_of (own a)) 1 (red_or_of (own b)) one_wide fit (holds_has ws u m a h) (holds_has ws u k b j))

pub logical_stands : (ws u : List ℕ) (o : Op) → IsBitwise o → (m k : Measured) (a b : Meaning) (r : Measured) → Stands ws u m a → Stands ws u k b →
    ((x : ℕ) → Has ws u (two_of o 1 (holds_term m) (holds_term k)) 1 x → Stands ws u r (alone 1 false x)) → Stands ws u r (logical_by o a b)
logical_stands ws u op.And is m k a b r h j step =
    step (if holds a && holds b then 1 else 0) (both_has ws u op.And m k a b _ h j (refl, refl) (logical_and (own a) (own b)))
logical_stands ws u op.Or is m k a b r h j step =
    step (if holds a || holds b then 1 else 0) (both_has ws u op.Or m k a b _ h j (refl, refl) (logical_or (own a) (own b)))
logical_stands ws u _ is m k a b r h j step = absurd is

-- what was measured, by itself with a sign
pub cast_stands : (ws u : List ℕ) (m : Measured) (a : Meaning) (signed : Bool) (r : Measured) → Stands ws u m a →
    (IsWidth m.size → Has ws u (own_term m) m.size (own a) → Stands ws u r (alone m.size signed (own a))) → Stands ws u r (alone a.size signed (own a))
cast_stands ws u m a signed r h step =
    subst (λ n. Stands ws u r (alone n signed (own a))) h.size
    (step (subst IsWidth (sym h.size) h.width) (subst (λ n. Has ws u (own_term m) n (own a)) (sym h.size) (own_has ws u m a h)))
