-- The arm of a `case` that is taken, by its number.
use Rattle.std.specs.Prelude.{ℕ, ⊤, List, Option, None, Some}
use Rattle.std.specs.List.{AllByRecursion, position_from}
use Rattle.net_ir.specs.declared.statement.Arm.{Arm}
use Rattle.net_ir.specs.declared.statement.Stmt.TheFolds.{every-Arm}
use Rattle.net_ir.specs.declared.design.Var.{Var}
use Rattle.net_ir.specs.Lawful.{IsLawful, IsLawfulStmtLayer}
use Rattle.net_ir.specs.Target.{is_empty}
use Rattle.net_ir.specs.Statement.{has_label}

-- the labels of an arm are lawful
abbrev pub HasLawfulLabels : List ℕ → Arm → Type 0
HasLawfulLabels ws arm = AllByRecursion (IsLawful ws) arm.labels

-- the body of an arm is lawful
abbrev pub IsLawfulInArm : List Var → Arm → Type 0
IsLawfulInArm vars = every-Arm (IsLawfulStmtLayer vars) (λ arm. ⊤)

-- the first arm with a label that equals the value, on the valuation u
abbrev pub labelled_arm : List ℕ → List ℕ → ℕ → List Arm → Option ℕ
labelled_arm ws u word arms = position_from (λ (arm : Arm). has_label ws u word arm.labels) 0 arms

-- the first arm without labels
abbrev pub default_arm : List Arm → Option ℕ
default_arm arms = position_from (λ (arm : Arm). is_empty arm.labels) 0 arms

abbrev pub or_else : Option ℕ → Option ℕ → Option ℕ
or_else None other = other
or_else (Some number) other = Some number

-- the arm that is taken
abbrev pub taken_arm : List ℕ → List ℕ → ℕ → List Arm → Option ℕ
taken_arm ws u word arms = or_else (labelled_arm ws u word arms) (default_arm arms)
