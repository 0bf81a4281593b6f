-- Whole numbers as counts.
use Rattle.std.proofs.Common.{◌≡◌, ℕ, ◌-◌, ◌*◌, ◌/◌, ◌^◌, ◌<◌, ◌≤◌, min, ℤ, pos, negsuc, inl, inr, refl, ap, ◌∙◌, arith}
use Rattle.std.proofs.Math.Nat.{mul-le-mul_right}
use Rattle.std.proofs.lemmas.Nat.{le-div}
use Rattle.std.proofs.lemmas.Bool.{lt-ltb, le-ltb, cases_lt}
use Rattle.bit_ops.specs.declared.value.TheConstants.{MAX_WIDTH}
use Rattle.sv_base.specs.declared.refusal.Place.{Place}
use Rattle.sv_base.specs.declared.refusal.Refusal.{Refusal}
use Rattle.const_eval.specs.WholeNumbers.{count_of}
use Rattle.const_eval.specs.Expressions.{as_width}

-- a count as a width
pub width_counted : (below : Refusal) (place : Place) (z : ℤ) → as_width below place (pos (count_of z)) ≡ as_width below place z
width_counted below place (pos n) = refl
width_counted below place (negsuc n) = refl

-- counts over the greatest width are one width
both_wide : (below : Refusal) (place : Place) (m n : ℕ) → MAX_WIDTH < m → MAX_WIDTH < n → as_width below place (pos m) ≡ as_width below place (pos n)
both_wide below place m n h k = rw (le-ltb m 1 (omega arith), le-ltb n 1 (omega arith), lt-ltb MAX_WIDTH m h, lt-ltb MAX_WIDTH n k) refl

-- a count that a word can say, as a width
pub width_capped : (below : Refusal) (place : Place) (z : ℤ) (n : ℕ) → n ≡ min (count_of z) (2 ^ MAX_WIDTH - 1)
    → as_width below place (pos n) ≡ as_width below place z
width_capped below place z n e =
    elim (cases_lt (2 ^ MAX_WIDTH - 1) (count_of z)) [
      | inl far ↦ both_wide below place n (count_of z) (omega arith) (omega arith)
      | inr near ↦ (let same : n ≡ count_of z = omega arith in ap (λ k. as_width below place (pos k)) same)
    ] ∙ width_counted below place z

-- copies are no smaller than one
pub many_wide : (m k t : ℕ) → 1 ≤ k → m < t → m < k * t
many_wide m k t h w = omega (arith, mul-le-mul_right t h)

-- more copies than there is place for
pub too_often : (m w k : ℕ) → 1 ≤ w → m / w < k → m < k * w
too_often m w k h f = elim (cases_lt m (k * w)) [ inl l ↦ l | inr g ↦ absurd (omega (arith, le-div k m w h g)) ]
