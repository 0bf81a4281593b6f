-- Whether a width holds a word.
use Rattle.std.proofs.Common.{◌≡◌, ℕ, ◌%◌, ◌^◌, ltb, eqb, sym, ◌∙◌, arith, inl, inr}
use Rattle.std.proofs.lemmas.Bool.{cases_lt, lt-ltb, le-ltb, eq-eqb, ne_eqb}
use Rattle.std.proofs.lemmas.Nat.{mod_below}
use Rattle.std.proofs.Math.Nat.{mod-eq_of_lt}
use Rattle.std.proofs.Math.Pow.{pow_pos}

-- a word is its own remainder exactly where it is below
pub held_test : (w k : ℕ) → eqb (w % 2 ^ k) w ≡ ltb w (2 ^ k)
held_test w k =
    elim (cases_lt w (2 ^ k)) [
      | inl less ↦ eq-eqb (w % 2 ^ k) w (mod-eq_of_lt less) ∙ sym (lt-ltb w (2 ^ k) less)
      | inr le ↦ ne_eqb (w % 2 ^ k) w (λ e. let clash : ⊥ = omega (arith, mod_below w (2 ^ k) (pow_pos k)) in clash) ∙ sym (le-ltb w (2 ^ k) le)
    ]
