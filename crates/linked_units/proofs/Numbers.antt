-- Numbers that stop at a limit.
use Rattle.std.proofs.Common.{◌≡◌, ℕ, ◌*◌, ◌≤◌, min, refl, arith, inl, inr}
use Rattle.std.proofs.Math.Nat.{mul-le-mul_left, mul-le-mul_right}
use Rattle.std.proofs.lemmas.Bool.{cases_lt}

-- a product whose second factor stops at a limit
pub product_stops : (k p l : ℕ) → 1 ≤ k → min (k * min p l) l ≡ min (k * p) l
product_stops k p l h = elim (cases_lt p l) [
  | inl below ↦ (let e : min p l ≡ p = omega arith in rw e refl)
  | inr above ↦ (
      let e : min p l ≡ l = omega arith in
      let a : k * l ≤ k * p = mul-le-mul_left k above in
      let b : 1 * l ≤ k * l = mul-le-mul_right l h in
      rw e (omega arith))
]
