-- Which bits are written, by the variables that targets name.
use Rattle.std.proofs.Common.{◌≡◌, ℕ, List, [], ◌∷◌, Bool, true, false, refl, sym, ◌∙◌, ap, subst, inl, inr}
use Rattle.std.specs.Prelude.{◌==◌, ◌||◌, ◌⊎◌}
use Rattle.std.specs.List.{AllByRecursion}
use Rattle.net_ir.specs.declared.design.Var.{Var}
use Rattle.net_ir.specs.declared.design.Driver.{Driver}
use Rattle.net_ir.specs.declared.design.Driver.TheVariants as driver
use Rattle.net_ir.specs.declared.design.Driver.TheVariants.{Assign, Comb, Clocked}
use Rattle.net_ir.specs.declared.statement.Target.{Target}
use Rattle.net_ir.specs.Target.{may_write, target_vars}
use Rattle.net_ir.specs.Statement.{targets_of}
use Rattle.net_ir.specs.Drive.{any_may_write, instance_targets, drives, writes}
use Rattle.net_ir.specs.Face.{stands_in}
use Rattle.plain_run.specs.Plain.{named_by, written_by, driven_by}
use Rattle.net_values.proofs.Elements.{all_from, each_flat, each_fails, none_passes}
use Rattle.net_values.proofs.Numbers.{ne_test, same_or_not}
use Rattle.net_values.proofs.Targets.{target_named}

-- ---- numbers in lists

-- what holds of each number of a list holds of one that stands in it
pub all_standing : (P : ℕ → Type 0) (xs : List ℕ) (x : ℕ) → AllByRecursion P xs → stands_in x xs ≡ true → P x
all_standing P [] x all is = absurd (let clash : false ≡ true = is in cc)
all_standing P (y ∷ xs) x all is = by_case (same_or_not y x) (all_standing P xs x all.1) where
  by_case : (y ≡ x) ⊎ (y ≡ x → ⊥) → (stands_in x xs ≡ true → P x) → P x
  by_case (inl same) rest = subst P same all.0
  by_case (inr other) rest = rest (sym (ap (λ (b : Bool). b || stands_in x xs) (ne_test y x other)) ∙ is)

-- ---- variables that no target names

-- no bit of a variable is written that a target doesn't name
pub unnamed : (vars : List Var) (x k : ℕ) (t : Target) → stands_in x (target_vars t) ≡ false → may_write vars t x k ≡ false
unnamed vars x k t clear = by_test (may_write vars t x k) refl where
  by_test : (b : Bool) → may_write vars t x k ≡ b → b ≡ false
  by_test false is = refl
  by_test true is = sym (target_named vars t x k is) ∙ clear

pub none_named : (vars : List Var) (x k : ℕ) (targets : List Target) → stands_in x (named_by targets) ≡ false → any_may_write vars targets x k ≡ false
none_named vars x k targets clear =
    none_passes (λ t. may_write vars t x k) targets
    (all_from (λ t. AllByRecursion (λ y. (y == x) ≡ false) (target_vars t)) (λ t. may_write vars t x k ≡ false)
    (λ t each. unnamed vars x k t (none_passes (λ y. y == x) (target_vars t) each)) targets
    (each_flat (λ y. (y == x) ≡ false) target_vars targets (each_fails (λ y. y == x) (named_by targets) clear)))

-- nor one of a driver, at all times or at an edge
pub unwritten : (vars : List Var) (d : Driver) (x k : ℕ) → stands_in x (written_by d) ≡ false → writes vars d x k ≡ false
unwritten vars (Assign target value place) x k clear = unnamed vars x k target clear
unwritten vars (Comb body place) x k clear = none_named vars x k (targets_of body) clear
unwritten vars (Clocked triggers body place) x k clear = none_named vars x k (targets_of body) clear
unwritten vars (driver.Instance made) x k clear = none_named vars x k (instance_targets made) clear

pub ungiven : (vars : List Var) (d : Driver) (x k : ℕ) → stands_in x (driven_by d) ≡ false → drives vars d x k ≡ false
ungiven vars (Assign target value place) x k clear = unnamed vars x k target clear
ungiven vars (Comb body place) x k clear = none_named vars x k (targets_of body) clear
ungiven vars (Clocked triggers body place) x k clear = refl
ungiven vars (driver.Instance made) x k clear = none_named vars x k (instance_targets made) clear

-- so the variable of a bit that is written is one that the driver names
pub written_named : (vars : List Var) (d : Driver) (x k : ℕ) → writes vars d x k ≡ true → stands_in x (written_by d) ≡ true
written_named vars d x k is = by_test (stands_in x (written_by d)) refl where
  by_test : (t : Bool) → stands_in x (written_by d) ≡ t → t ≡ true
  by_test true here = refl
  by_test false clear = sym (unwritten vars d x k clear) ∙ is

-- and that of a bit that is given at all times is one that it gives
pub driven_named : (vars : List Var) (d : Driver) (x k : ℕ) → drives vars d x k ≡ true → stands_in x (driven_by d) ≡ true
driven_named vars d x k is = by_test (stands_in x (driven_by d)) refl where
  by_test : (t : Bool) → stands_in x (driven_by d) ≡ t → t ≡ true
  by_test true here = refl
  by_test false clear = sym (ungiven vars d x k clear) ∙ is
