-- Parts that are joined, and copies.
use Rattle.std.proofs.Common.{◌≡◌, ℕ, zero, suc, ◌+◌, ◌*◌, ◌%◌, ◌^◌, ◌≤◌, ◌<◌, true, false, List, [], ◌∷◌, ◌++◌, Ok, refl, sym, ◌∙◌, ap, subst, arith}
use Rattle.std.proofs.lemmas.Nat.{pow-add, pow_pos}
use Rattle.std.proofs.lemmas.Bool.{ne_eqb, le-ltb}
use Rattle.std.proofs.Math.Nat.{mod-eq_of_lt, mul-le-mul_right}
use Rattle.std.proofs.Math.Pow.{pow-lt}
use Rattle.std.proofs.lemmas.Bool.Decides.{nat_tests}
use Rattle.std.specs.Prelude.{nat_le, ◌&&◌, ℤ, pos, negsuc}
use Rattle.bit_ops.specs.declared.value.TheConstants.{MAX_WIDTH}
use Rattle.bit_ops.specs.declared.operation.Op.TheVariants as op
use Rattle.bit_ops.specs.declared.value.Bits.{Bits}
use Rattle.bit_ops.specs.Width.{IsWidth}
use Rattle.bit_ops.specs.Meaning.{concat_of}
use Rattle.sv_base.specs.declared.refusal.Place.{Place}
use Rattle.net_ir.specs.declared.term.Term.{Term, Const}
use Rattle.net_ir.specs.Value.{AreWordsOf}
use Rattle.net_ir.specs.Terms.{Has, has_const, has_two}
use Rattle.const_eval.specs.Meaning.{Meaning, own, number, alone}
use Rattle.const_eval.specs.WholeNumbers.{count_of}
use Rattle.const_eval.specs.Selects.{total, joined, copies}
use Rattle.const_eval.specs.Expressions as spec
use Rattle.const_eval.specs.code.Agreeing.{Agrees}
use Rattle.const_eval.proofs.Joining.{total_more, joined_more}
use Rattle.width_rules.specs.declared.measured.Measured.{Measured}
use Rattle.width_rules.specs.declared.joined.Joined.TheVariants.{Whole}
use Rattle.width_rules.specs.Building.{two_of, extended_to}
use Rattle.width_rules.specs.Waiting.{own_term}
use Rattle.width_rules.specs.code.Standing.{Stands, IsJoined}
use Rattle.width_rules.proofs.Standings.{ValuesFit, WordsOfSigned, small, own_has, extended_has}

-- one part alone
total_one : (m : Meaning) → m.size ≡ total (m ∷ [])
total_one m = omega arith

joined_one : (m : Meaning) → own m ≡ joined (m ∷ [])
joined_one m = omega arith

-- a first part
pub first_part : (ws u : List ℕ) (ms : List Meaning) (m : Meaning) (part : Measured) (t : Term) → ms ≡ [] → Stands ws u part m → t ≡ own_term part →
    IsWidth part.size × (part.size ≡ total (ms ++ m ∷ [])) × Has ws u t part.size (joined (ms ++ m ∷ []))
first_part ws u ms m part t none h is = (
  subst IsWidth (sym h.size) h.width,
  h.size ∙ total_one m ∙ ap (λ ns. total (ns ++ m ∷ [])) (sym none),
  subst (λ x. Has ws u t part.size x) (joined_one m ∙ ap (λ ns. joined (ns ++ m ∷ [])) (sym none))
      (subst (λ r. Has ws u r part.size (own m)) (sym is) (subst (λ n. Has ws u (own_term part) n (own m)) (sym h.size) (own_has ws u part m h))),
)

-- one more part
pub one_more : (ws u : List ℕ) (ms : List Meaning) (m : Meaning) (part : Measured) (w : ℕ) (above : Term) → IsJoined ws u (Whole w above) ms → Stands ws u part m →
    w + part.size ≤ MAX_WIDTH →
    IsWidth (w + part.size) × (w + part.size ≡ total (ms ++ m ∷ [])) × Has ws u (two_of op.Concat (w + part.size) above (own_term part)) (w + part.size) (joined (ms ++ m ∷ []))
one_more ws u ms m part w above h j fits =
    let below : Has ws u (own_term part) part.size (own m) = subst (λ n. Has ws u (own_term part) n (own m)) (sym j.size) (own_has ws u part m j) in
    let wide : IsWidth (w + part.size) = (omega (arith, h.0), fits) in (
      wide,
      ap (λ n. w + n) j.size ∙ ap (λ n. n + m.size) h.1 ∙ sym (total_more ms m),
      subst (λ x. Has ws u (two_of op.Concat (w + part.size) above (own_term part)) (w + part.size) x)
          (ap (λ n. concat_of n (joined ms) (own m)) j.size ∙ sym (joined_more ms m))
          (has_two ws u op.Concat (w + part.size) 0 above (own_term part) w (joined ms) part.size (own m) wide refl h.2 below),
    )

-- parts that are too wide stay so, and become so
pub still_too_wide : (ms : List Meaning) (m : Meaning) → MAX_WIDTH < total ms → MAX_WIDTH < total (ms ++ m ∷ [])
still_too_wide ms m h = omega (arith, total_more ms m)

pub now_too_wide : (ws u : List ℕ) (ms : List Meaning) (m : Meaning) (part : Measured) (w : ℕ) (above : Term) → IsJoined ws u (Whole w above) ms → Stands ws u part m →
    MAX_WIDTH < w + part.size → MAX_WIDTH < total (ms ++ m ∷ [])
now_too_wide ws u ms m part w above h j long = omega (arith, total_more ms m, h.1, j.size, long)

pub concatenation_stands : (ws u : List ℕ) (place : Place) (w : ℕ) (t : Term) (ms : List Meaning) (r : Measured) → IsJoined ws u (Whole w t) ms →
    ((x : ℕ) → IsWidth w → Has ws u t w x → Stands ws u r (alone w false x)) → Agrees (Stands ws u) (Ok r) (spec.concatenation place ms)
concatenation_stands ws u place w t ms r h step =
    let fits : total ms ≤ MAX_WIDTH = subst (λ n. n ≤ MAX_WIDTH) h.1 h.0.1 in
    rw (ne_eqb (total ms) 0 (λ none. omega (arith, h.0.0, h.1, none)), le-ltb MAX_WIDTH (total ms) fits)
    (subst (λ n. Stands ws u r (alone n false (joined ms))) h.1 (step (joined ms) h.0 h.2))

-- ---- copies

le_times : (count w : ℕ) → 1 ≤ count → w ≤ count * w
le_times zero w some = absurd (omega (arith, some))
le_times (suc count) w some = omega arith

-- copies of a word are a product
copies_product : (count w a : ℕ) → copies count w a ≡ a * copies count w 1
copies_product zero w a = omega arith
copies_product (suc count) w a = omega (arith, ap (λ p. p * 2 ^ w) (copies_product count w a))

below_product : (x a p q : ℕ) → x < p → a < q → x * q + a < p * q
below_product x a p q h k = omega (arith, mul-le-mul_right q h, k)

pub copies_small : (count w a : ℕ) → a < 2 ^ w → copies count w a < 2 ^ (count * w)
copies_small zero w a h = pow_pos (0 * w)
copies_small (suc count) w a h =
    let wide : suc count * w ≡ count * w + w = omega arith in
    subst (λ k. copies count w a * 2 ^ w + a < k) (sym (ap (λ n. 2 ^ n) wide ∙ pow-add 2 (count * w) w))
    (below_product (copies count w a) a (2 ^ (count * w)) (2 ^ w) (copies_small count w a h) h)

-- a term times the word with a 1 at the lowest place of each copy
pub repetition_has : ValuesFit → WordsOfSigned → (ws u : List ℕ) (count w : ℕ) (t : Term) (x : ℕ) (ones : Bits) → AreWordsOf ws u → IsWidth w → 1 ≤ count → count * w ≤ MAX_WIDTH →
    Has ws u t w x → ones.width ≡ count * w → ones.word ≡ copies count w 1 →
    IsWidth (count * w) × Has ws u (two_of op.Mul (count * w) (extended_to (count * w) false w t) (Const ones)) (count * w) (copies count w x)
repetition_has law word ws u count w t x ones words wide some most h ones_wide ones_word =
    let n = count * w in
    let least : w ≤ n = le_times count w some in
    let whole : IsWidth n = (omega (arith, wide, least), most) in (
      whole,
      subst (λ y. Has ws u (two_of op.Mul n (extended_to n false w t) (Const ones)) n y)
          (mod-eq_of_lt (subst (λ y. y < 2 ^ n) (copies_product count w x) (copies_small count w x (small law ws u t w x words h))) ∙ sym (copies_product count w x))
          (has_two ws u op.Mul n 0 (extended_to n false w t) (Const ones) n x n (copies count w 1) whole (refl, refl)
          (extended_has law word ws u w t x n false words wide h least most)
          (subst (λ k. Has ws u (Const ones) k (copies count w 1)) ones_wide (subst (λ y. Has ws u (Const ones) ones.width y) ones_word (has_const ws u ones)))),
    )

pub one_fits : (w : ℕ) → 1 ≤ w → 1 < 2 ^ w
one_fits w wide = pow-lt {i = 0} {j = w} wide

no_product : (k w : ℕ) → 1 ≤ k → 1 ≤ w → k * w ≡ 0 → ⊥
no_product zero w some wide none = omega (arith, some)
no_product (suc k) zero some wide none = omega (arith, wide)
no_product (suc k) (suc w) some wide none = omega (arith, none)

-- copies of the word of 1
pub copies_of_one : (count w word width one : ℕ) → IsWidth w → width ≡ w → one ≡ 1 % 2 ^ w → word ≡ copies count width one → word ≡ copies count w 1
copies_of_one count w word width one wide same is h =
    h ∙ ap (λ n. copies count n one) same ∙ ap (copies count w) (is ∙ mod-eq_of_lt (one_fits w wide.0))

pub too_wide_copies : (k n : ℕ) → 1 ≤ k → MAX_WIDTH < n → MAX_WIDTH < k * n
too_wide_copies zero n some h = absurd (omega (arith, some))
too_wide_copies (suc k) n some h = omega (arith, h)

past_by_tests : (w n : ℕ) → 1 ≤ w → (nat_le 1 w && nat_le n MAX_WIDTH) ≡ false → MAX_WIDTH < n
past_by_tests w n some fails = grind (arith, nat_tests)

pub no_fit : (ws u : List ℕ) (k w : ℕ) (t : Term) (ms : List Meaning) → (nat_le 1 w && nat_le (k * w) MAX_WIDTH) ≡ false → IsJoined ws u (Whole w t) ms → MAX_WIDTH < k * total ms
no_fit ws u k w t ms fails h = subst (λ n. MAX_WIDTH < k * n) h.1 (past_by_tests w (k * w) h.0.0 fails)

-- what is repeated stands for the copies
pub repeated_stands : (ws u : List ℕ) (place : Place) (n : Meaning) (ms : List Meaning) (k w : ℕ) (r : Measured) → count_of (number n) ≡ k → 1 ≤ k → w ≡ total ms → 1 ≤ w →
    k * w ≤ MAX_WIDTH → Stands ws u r (alone (k * w) false (copies k w (joined ms))) → Agrees (Stands ws u) (Ok r) (spec.repeated place n ms)
repeated_stands ws u place n ms k w r count some width wide fits h = go (number n) refl count where
  go : (z : ℤ) → number n ≡ z → count_of z ≡ k → Agrees (Stands ws u) (Ok r) (spec.repeated place n ms)
  go (pos j) e same =
      rw (e, le-ltb j 1 (subst (λ i. 1 ≤ i) (sym same) some), same, ← width, ne_eqb (k * w) 0 (no_product k w some wide), le-ltb MAX_WIDTH (k * w) fits) h
  go (negsuc j) e same = absurd (omega (arith, same, some))

-- so many copies of some bits that are a width
pub fitting_count : (k w : ℕ) → (nat_le 1 w && nat_le (k * w) MAX_WIDTH) ≡ true → (1 ≤ w) × (k * w ≤ MAX_WIDTH) × (k ≤ MAX_WIDTH)
fitting_count k w fits = (least, all, omega (arith, count_below k w least, all)) where
  least : 1 ≤ w
  least = grind (arith, nat_tests)

  all : k * w ≤ MAX_WIDTH
  all = grind (arith, nat_tests)

  count_below : (k w : ℕ) → 1 ≤ w → k ≤ k * w
  count_below zero w wide = omega arith
  count_below (suc k) w wide = omega (arith, count_below k w wide, wide)
