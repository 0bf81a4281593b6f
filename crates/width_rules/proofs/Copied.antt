-- Parts that are joined, and copies of them, stand for what they mean.
use Rattle.std.proofs.Common.{◌≡◌, ℕ, ◌+◌, ◌*◌, ◌≤◌, ◌<◌, ◌==◌, zero, suc, Bool, true, false, List, [], ◌∷◌, ◌++◌, Result, Ok, Err, ℤ, pos, negsuc, if◌then◌else◌, refl, sym, ◌∙◌, ap, subst, arith}
use Rattle.std.specs.Prelude.{nat_le}
use Rattle.std.proofs.lemmas.Bool.{ne_eqb, eq-eqb, lt-ltb, le-ltb, leb-true, leb-false}
use Rattle.std.proofs.lemmas.Bool.Decides.{nat_tests}
use Rattle.bit_ops.specs.declared.value.TheConstants.{MAX_WIDTH}
use Rattle.bit_ops.specs.declared.operation.Op.TheVariants as op
use Rattle.bit_ops.specs.Width.{IsWidth}
use Rattle.sv_base.specs.declared.kind.Kind.TheVariants as kind
use Rattle.sv_base.specs.declared.refusal.Place.{Place}
use Rattle.sv_base.specs.declared.refusal.Refusal.{Refusal}
use Rattle.net_ir.specs.declared.term.Term.{Term, Const}
use Rattle.net_ir.specs.Value.{AreWordsOf}
use Rattle.net_ir.specs.Terms.{Has}
use Rattle.const_eval.specs.declared.env.Const as constant
use Rattle.const_eval.specs.Meaning.{Meaning, number}
use Rattle.const_eval.specs.Meaning as meaning
use Rattle.const_eval.specs.WholeNumbers.{whole_number_of, count_of}
use Rattle.const_eval.specs.Selects.{total, joined, copies}
use Rattle.const_eval.specs.Expressions as expressions
use Rattle.const_eval.specs.Expressions.{unnamed_at, ◌>>=◌}
use Rattle.const_eval.specs.Alike.{Alike}
use Rattle.const_eval.specs.code.Agreeing.{Agrees}
use Rattle.const_eval.proofs.Joining.{too_many}
use Rattle.width_rules.specs.declared.measured.Measured.{Measured}
use Rattle.width_rules.specs.declared.joined.Joined.{Joined}
use Rattle.width_rules.specs.declared.joined.Joined.TheVariants.{Nothing, Whole, TooWide}
use Rattle.width_rules.specs.Building.{two_of, extended_to}
use Rattle.width_rules.specs.Waiting.{own_term}
use Rattle.width_rules.specs.Values.{bits_of}
use Rattle.width_rules.specs.Operations.{alone}
use Rattle.width_rules.specs.Joining as spec
use Rattle.width_rules.specs.Joining.{joined_with}
use Rattle.width_rules.specs.code.Standing.{Stands, IsJoined, IsFound}
use Rattle.width_rules.proofs.Standings.{ValuesFit, WordsOfSigned, alone_stands}
use Rattle.width_rules.proofs.Takes.{found_number}
use Rattle.width_rules.proofs.Valued.{bits_width, bits_word}
use Rattle.width_rules.proofs.Joins.{first_part, one_more, still_too_wide, now_too_wide, concatenation_stands, repetition_has, copies_small, one_fits, too_wide_copies, no_fit, repeated_stands, fitting_count}

-- what agrees where nothing failed
pub alike_ok : {X Y : Type 0} (R : X → Y → Type 0) (x : X) (j : Result Y Refusal) → Agrees R (Ok x) j → Alike R (Ok x) j
alike_ok R x (Ok y) h = h
alike_ok R x (Err refusal) h = absurd h

-- what is refused the same
pub alike_refused : {X Y : Type 0} (R : X → Y → Type 0) (refusal : Refusal) (j : Result Y Refusal) → j ≡ Err refusal → Alike R (Err refusal) j
alike_refused R refusal j is = subst (λ k. Alike R (Err refusal) k) (sym is) refl

-- ---- what is refused of parts

none_joined : (place : Place) (ms : List Meaning) → ms ≡ [] → expressions.concatenation place ms ≡ Err (unnamed_at kind.BadRange place)
none_joined place ms none = rw none refl

too_wide : (place : Place) (ms : List Meaning) → MAX_WIDTH < total ms → expressions.concatenation place ms ≡ Err (unnamed_at kind.TooWide place)
too_wide place ms wide = rw (ne_eqb (total ms) 0 (λ none. omega (arith, none, wide)), lt-ltb MAX_WIDTH (total ms) wide) refl

no_copies : (place : Place) (n : Meaning) (ms : List Meaning) → count_of (number n) ≡ 0 → expressions.repeated place n ms ≡ Err (unnamed_at kind.BadRange place)
no_copies place n ms none = go (number n) refl none where
  go : (z : ℤ) → number n ≡ z → count_of z ≡ 0 → expressions.repeated place n ms ≡ Err (unnamed_at kind.BadRange place)
  go (pos k) e h = rw (e, h) refl
  go (negsuc k) e h = rw e refl

copies_of_none : (place : Place) (n : Meaning) (ms : List Meaning) → 1 ≤ count_of (number n) → ms ≡ [] → expressions.repeated place n ms ≡ Err (unnamed_at kind.BadRange place)
copies_of_none place n ms some none = go (number n) refl some where
  go : (z : ℤ) → number n ≡ z → 1 ≤ count_of z → expressions.repeated place n ms ≡ Err (unnamed_at kind.BadRange place)
  go (pos k) e h = rw (e, le-ltb k 1 h, none, eq-eqb (k * 0) 0 (omega arith)) refl
  go (negsuc k) e h = absurd (omega (arith, h))

module _ (law : ValuesFit) (word : WordsOfSigned) (ws u : List ℕ) (words : AreWordsOf ws u) where
  -- ---- parts

  pub with_stands : (j : Joined) (ms : List Meaning) (a : Measured) (m : Meaning) → IsJoined ws u j ms → Stands ws u a m → IsJoined ws u (joined_with j a) (ms ++ m ∷ [])
  with_stands Nothing ms a m h k = first_part ws u ms m a (own_term a) h k refl
  with_stands (Whole w above) ms a m h k = by_test (nat_le (w + a.size) MAX_WIDTH) refl where
    by_test : (b : Bool) → nat_le (w + a.size) MAX_WIDTH ≡ b →
        IsJoined ws u (if b then Whole (w + a.size) (two_of op.Concat (w + a.size) above (own_term a)) else TooWide) (ms ++ m ∷ [])
    by_test true is = one_more ws u ms m a w above h k (leb-true (w + a.size) MAX_WIDTH is)
    by_test false is = now_too_wide ws u ms m a w above h k (leb-false (w + a.size) MAX_WIDTH is)
  with_stands TooWide ms a m h k = still_too_wide ms m h

  pub concatenation_alike : (place : Place) (j : Joined) (ms : List Meaning) → IsJoined ws u j ms → Alike (Stands ws u) (spec.concatenation place j) (expressions.concatenation place ms)
  concatenation_alike place Nothing ms h = alike_refused (Stands ws u) _ (expressions.concatenation place ms) (none_joined place ms h)
  concatenation_alike place (Whole w t) ms h =
      alike_ok (Stands ws u) _ (expressions.concatenation place ms)
      (concatenation_stands ws u place w t ms (alone w false t) h (λ x wide has. alone_stands law word ws u w t false x words wide has))
  concatenation_alike place TooWide ms h = alike_refused (Stands ws u) _ (expressions.concatenation place ms) (too_wide place ms h)

  -- ---- copies

  repetition_stands : (count w : ℕ) (t : Term) (x : ℕ) → IsWidth w → 1 ≤ count → count * w ≤ MAX_WIDTH → Has ws u t w x →
      Stands ws u (spec.repetition count w t) (meaning.alone (count * w) false (copies count w x))
  repetition_stands count w t x wide some fits has =
      let n = count * w in
      let whole = repetition_has law word ws u count w t x in
      let size : IsWidth n = (least count w some wide.0, fits) in
      let both = whole (bits_of n (copies count w 1)) words wide some fits has (bits_width n (copies count w 1) size)
      (bits_word n (copies count w 1) size (copies_small count w 1 (one_fits w wide.0))) in
      alone_stands law word ws u n (two_of op.Mul n (extended_to n false w t) (Const (bits_of n (copies count w 1)))) false (copies count w x) words both.0 both.1
    where
      least : (k w : ℕ) → 1 ≤ k → 1 ≤ w → 1 ≤ k * w
      least zero w some wide = absurd (omega (arith, some))
      least (suc k) w some wide = omega (arith, wide)

  copied_alike : (place : Place) (count : ℕ) (n : Meaning) (j : Joined) (ms : List Meaning) → count_of (number n) ≡ count → 1 ≤ count → IsJoined ws u j ms →
      Alike (Stands ws u) (spec.copied place count j) (expressions.repeated place n ms)
  copied_alike place count n Nothing ms is some h =
      alike_refused (Stands ws u) _ (expressions.repeated place n ms) (copies_of_none place n ms (subst (λ k. 1 ≤ k) (sym is) some) h)
  copied_alike place count n (Whole w t) ms is some h = by_test (spec.fits count w) refl where
    by_test : (b : Bool) → spec.fits count w ≡ b →
        Alike (Stands ws u) (if b then Ok (spec.repetition count w t) else Err (unnamed_at kind.TooWide place)) (expressions.repeated place n ms)
    by_test true fits =
        let parts = fitting_count count w fits in
        alike_ok (Stands ws u) _ (expressions.repeated place n ms)
        (repeated_stands ws u place n ms count w (spec.repetition count w t) is some h.1 parts.0 parts.1 (repetition_stands count w t (joined ms) h.0 some parts.1 h.2))
    by_test false fails =
        alike_refused (Stands ws u) _ (expressions.repeated place n ms)
        (too_many place n ms (subst (λ k. 1 ≤ k) (sym is) some) (subst (λ k. MAX_WIDTH < k * total ms) (sym is) (no_fit ws u count w t ms fails h)))
  copied_alike place count n TooWide ms is some h =
      alike_refused (Stands ws u) _ (expressions.repeated place n ms)
      (too_many place n ms (subst (λ k. 1 ≤ k) (sym is) some) (subst (λ k. MAX_WIDTH < k * total ms) (sym is) (too_wide_copies count (total ms) some h)))

  counted_alike : (place : Place) (count : ℕ) (n : Meaning) (j : Joined) (ms : List Meaning) → count_of (number n) ≡ count → IsJoined ws u j ms →
      Alike (Stands ws u) (spec.repeated place count j) (expressions.repeated place n ms)
  counted_alike place count n j ms is h = by_test (count == 0) refl where
    by_test : (b : Bool) → (count == 0) ≡ b → Alike (Stands ws u) (if b then Err (unnamed_at kind.BadRange place) else spec.copied place count j) (expressions.repeated place n ms)
    by_test true none = alike_refused (Stands ws u) _ (expressions.repeated place n ms) (no_copies place n ms (is ∙ grind (arith, nat_tests)))
    by_test false some = copied_alike place count n j ms is (grind (arith, nat_tests)) h

  pub repeated_alike : (place : Place) (c : constant.Const) (n : Meaning) (j : Joined) (ms : List Meaning) → IsFound c n → IsJoined ws u j ms →
      Alike (Stands ws u) (spec.repeated place (count_of (whole_number_of c)) j) (expressions.repeated place n ms)
  repeated_alike place c n j ms found h = counted_alike place (count_of (whole_number_of c)) n j ms (sym (ap count_of (found_number c n found))) h

-- what is answered of so many copies that fit
pub repeated_told : (place : Place) (count w : ℕ) (t : Term) (r : Measured) → 1 ≤ count → spec.fits count w ≡ true → r ≡ spec.repetition count w t →
    Agrees (λ x y. x ≡ y) (Ok r) (spec.repeated place count (Whole w t))
repeated_told place count w t r some fits same = rw (ne_eqb count 0 (λ none. omega (arith, none, some)), fits) same
