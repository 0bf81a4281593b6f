-- What tests of numbers tell.
use Rattle.std.proofs.Common.{◌≡◌, ℕ, ◌<◌, ◌≤◌, Bool, true, false, refl, sym, ◌∙◌, arith, inl, inr}
use Rattle.std.specs.Prelude.{◌==◌, ◌&&◌, nat_lt, ◌⊎◌}
use Rattle.std.proofs.lemmas.Bool.Decides.{nat_tests}

pub and_of_true : (a b : Bool) → a ≡ true → b ≡ true → (a && b) ≡ true
and_of_true a b p q = cc

pub front_of_and : (a b : Bool) → (a && b) ≡ true → a ≡ true
front_of_and true b h = refl
front_of_and false b h = h

pub back_of_and : (a b : Bool) → (a && b) ≡ true → b ≡ true
back_of_and true b h = h
back_of_and false b h = cc

pub eq_test : (a b : ℕ) → a ≡ b → (a == b) ≡ true
eq_test a b h = grind (arith, nat_tests)

pub test_eq : (a b : ℕ) → (a == b) ≡ true → a ≡ b
test_eq a b h = grind (arith, nat_tests)

pub ne_test : (a b : ℕ) → (a ≡ b → ⊥) → (a == b) ≡ false
ne_test a b h = grind (arith, nat_tests)

pub lt_test : (a b : ℕ) → a < b → nat_lt a b ≡ true
lt_test a b h = grind (arith, nat_tests)

pub test_lt : (a b : ℕ) → nat_lt a b ≡ true → a < b
test_lt a b h = grind (arith, nat_tests)

-- two numbers are one or are not
pub same_or_not : (a b : ℕ) → (a ≡ b) ⊎ (a ≡ b → ⊥)
same_or_not a b = decide (a == b) refl where
  decide : (t : Bool) → (a == b) ≡ t → (a ≡ b) ⊎ (a ≡ b → ⊥)
  decide true h = inl (test_eq a b h)
  decide false h = inr (λ e. absurd (let clash : true ≡ false = sym (eq_test a b e) ∙ h in cc))

-- a number is below another or not
pub within_or_past : (a b : ℕ) → (a < b) ⊎ (b ≤ a)
within_or_past a b = decide (nat_lt a b) refl where
  decide : (t : Bool) → nat_lt a b ≡ t → (a < b) ⊎ (b ≤ a)
  decide true h = inl (test_lt a b h)
  decide false h = inr (grind (arith, nat_tests))
