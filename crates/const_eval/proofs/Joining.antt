-- Parts and copies, joined.
use Rattle.std.proofs.Common.{◌≡◌, ℕ, ◌+◌, ◌*◌, ◌<◌, ◌≤◌, ℤ, pos, negsuc, List, [], ◌∷◌, ◌++◌, Err, refl, ap, ◌∙◌, arith}
use Rattle.std.proofs.lemmas.Nat.{pow-add}
use Rattle.std.proofs.lemmas.Bool.{ne_eqb, lt-ltb, le-ltb}
use Rattle.bit_ops.specs.declared.value.TheConstants.{MAX_WIDTH}
use Rattle.bit_ops.specs.Meaning.{concat_of}
use Rattle.sv_base.specs.declared.kind.Kind.TheVariants as kind
use Rattle.sv_base.specs.declared.refusal.Place.{Place}
use Rattle.const_eval.specs.WholeNumbers.{count_of}
use Rattle.const_eval.specs.Meaning.{Meaning, own, number}
use Rattle.const_eval.specs.Expressions as spec
use Rattle.const_eval.specs.Selects.{total, joined}

-- the size of parts and one more
pub total_more : (ms : List Meaning) (m : Meaning) → total (ms ++ m ∷ []) ≡ total ms + m.size
total_more [] m = omega arith
total_more (l ∷ ms) m = omega (arith, total_more ms m)

-- a word above a joined one
concat_above : (n k a b c : ℕ) → concat_of (n + k) a (concat_of k b c) ≡ concat_of k (concat_of n a b) c
concat_above n k a b c = omega (arith, ap (λ p. a * p) (pow-add 2 n k))

-- the bits of parts and one more
pub joined_more : (ms : List Meaning) (m : Meaning) → joined (ms ++ m ∷ []) ≡ concat_of m.size (joined ms) (own m)
joined_more [] m = omega arith
joined_more (l ∷ ms) m =
    ap (λ n. concat_of n (own l) (joined (ms ++ m ∷ []))) (total_more ms m)
    ∙ ap (concat_of (total ms + m.size) (own l)) (joined_more ms m)
    ∙ concat_above (total ms) m.size (own l) (joined ms) (own m)

-- too many copies
pub too_many : (place : Place) (n : Meaning) (ms : List Meaning) → 1 ≤ count_of (number n) → MAX_WIDTH < count_of (number n) * total ms
    → spec.repeated place n ms ≡ Err (spec.unnamed_at kind.TooWide place)
too_many place n ms least wide = go (number n) refl least wide
  where
    go : (z : ℤ) → number n ≡ z → 1 ≤ count_of z → MAX_WIDTH < count_of z * total ms → spec.repeated place n ms ≡ Err (spec.unnamed_at kind.TooWide place)
    go (pos k) e h f = rw (e, le-ltb k 1 h, ne_eqb (k * total ms) 0 (λ none. omega arith), lt-ltb MAX_WIDTH (k * total ms) f) refl
    go (negsuc k) e h f = absurd (omega (arith, h))
