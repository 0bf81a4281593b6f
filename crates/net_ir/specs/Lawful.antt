-- Lawful terms, and lawful designs: every number names something that is there, and sizes are those that their places ask for.
use Rattle.std.specs.Prelude.{◌≡◌, ℕ, ◌+◌, ◌<◌, ◌≤◌, ◌^◌, false, List, length, map, Option, None, Some, ⊤}
use Rattle.std.specs.List.{AllByRecursion}
use Rattle.bit_ops.specs.Width.{IsWidth, WidthsFit}
use Rattle.net_ir.specs.declared.term.Term.{Term}
use Rattle.net_ir.specs.declared.term.Term.TheOpen.{Term-F, Const, Read, Pick, Apply}
use Rattle.net_ir.specs.declared.term.Term.TheFolds.{every-Term}
use Rattle.net_ir.specs.declared.design.Var.{Var}
use Rattle.net_ir.specs.declared.statement.Pos.{Pos}
use Rattle.net_ir.specs.declared.statement.Target.{Target}
use Rattle.net_ir.specs.declared.statement.Target.TheOpen as target
use Rattle.net_ir.specs.declared.statement.Target.TheOpen.{Target-F}
use Rattle.net_ir.specs.declared.statement.Target.TheFolds.{every-Target}
use Rattle.net_ir.specs.declared.statement.Arm.{Arm}
use Rattle.net_ir.specs.declared.statement.Stmt.{Stmt}
use Rattle.net_ir.specs.declared.statement.Stmt.TheOpen as statement
use Rattle.net_ir.specs.declared.statement.Stmt.TheOpen.{Stmt-F}
use Rattle.net_ir.specs.declared.statement.Stmt.TheFolds.{every-Stmt}
use Rattle.net_ir.specs.declared.design.Trigger.{Trigger}
use Rattle.net_ir.specs.declared.design.Input.{Input}
use Rattle.net_ir.specs.declared.design.Output.{Output}
use Rattle.net_ir.specs.declared.design.Driver.{Driver}
use Rattle.net_ir.specs.declared.design.Driver.TheVariants as driver
use Rattle.net_ir.specs.declared.design.Spec.{Spec}
use Rattle.net_ir.specs.Value.{widths_of, size}
use Rattle.net_ir.specs.Target.{target_width}
use Rattle.net_ir.specs.Facts.{HasPortsFirst}

-- one layer of a lawful term: a read names a variable that is there, so many bits are a width that a value may have, and an
-- operation has the operands of its row
abbrev pub IsLawfulLayer : List ℕ → Term-F Term → Type 0
IsLawfulLayer ws (Const bits) = ⊤
IsLawfulLayer ws (Read var place) = var < length ws
IsLawfulLayer ws (Pick base low at at_signed down width) = IsWidth width
IsLawfulLayer ws (Apply op width lo args) = IsWidth width × WidthsFit op width lo (map (size ws) args)

-- a term each layer of which is lawful, where ws are the widths of the variables
abbrev pub IsLawful : List ℕ → Term → Type 0
IsLawful ws = every-Term (IsLawfulLayer ws)

-- ---- targets and statements

-- a lawful position, of so many bits as a value may have
abbrev pub IsLawfulPos : List ℕ → Option Pos → Type 0
IsLawfulPos ws None = ⊤
IsLawfulPos ws (Some p) = IsLawful ws p.at × IsWidth p.width

-- what a name means is there, where it means a variable
abbrev pub IsThere : List ℕ → Option ℕ → Type 0
IsThere ws None = ⊤
IsThere ws (Some x) = x < length ws

abbrev pub IsLawfulTargetLayer : List ℕ → Target-F Target → Type 0
IsLawfulTargetLayer ws (target.Of var name place p) = IsThere ws var × IsLawfulPos ws p
IsLawfulTargetLayer ws (target.List parts) = ⊤

-- a target each name and position of which is lawful
abbrev pub IsLawfulTarget : List ℕ → Target → Type 0
IsLawfulTarget ws = every-Target (IsLawfulTargetLayer ws)

-- a lawful value that is at least as wide as its lawful target, which takes no more bits than a name that means no variable adds
pub record IsLawfulAssign (vars : List Var) (to : Target) (value : Term) : Type 0 where
  pub lawful_target : IsLawfulTarget (widths_of vars) to
  pub lawful_value : IsLawful (widths_of vars) value
  pub wide : target_width vars to ≤ size (widths_of vars) value

-- lawful labels of the size of the value that they are compared with
abbrev pub IsLawfulArm : List ℕ → ℕ → Arm → Type 0
IsLawfulArm ws n arm = AllByRecursion (λ label. IsLawful ws label × (size ws label ≡ n)) arm.labels

abbrev pub IsLawfulStmtLayer : List Var → Stmt-F Stmt Arm → Type 0
IsLawfulStmtLayer vars (statement.Block parts) = ⊤
IsLawfulStmtLayer vars (statement.If test first second) = IsLawful (widths_of vars) test
IsLawfulStmtLayer vars (statement.Case value arms) =
    IsLawful (widths_of vars) value × AllByRecursion (IsLawfulArm (widths_of vars) (size (widths_of vars) value)) arms
IsLawfulStmtLayer vars (statement.Assign blocking to value) = IsLawfulAssign vars to value

-- a statement each layer of which is lawful
abbrev pub IsLawfulStmt : List Var → Stmt → Type 0
IsLawfulStmt vars = every-Stmt (IsLawfulStmtLayer vars) (λ arm. ⊤)

-- ---- drivers and designs

abbrev pub IsLawfulTrigger : List ℕ → Trigger → Type 0
IsLawfulTrigger ws t = IsThere ws t.var

abbrev pub IsLawfulInput : List ℕ → Input → Type 0
IsLawfulInput ws i = IsThere ws i.plain × IsLawful ws i.value

abbrev pub IsLawfulJoined : List ℕ → Option Target → Type 0
IsLawfulJoined ws None = ⊤
IsLawfulJoined ws (Some to) = IsLawfulTarget ws to

-- a lawful driver, as far as the module itself shows: what an instance asks of its connections depends on the ports of its child
abbrev pub IsLawfulDriver : List Var → Driver → Type 0
IsLawfulDriver vars (driver.Assign to value place) = IsLawfulAssign vars to value
IsLawfulDriver vars (driver.Comb body place) = IsLawfulStmt vars body
IsLawfulDriver vars (driver.Clocked triggers body place) = AllByRecursion (IsLawfulTrigger (widths_of vars)) triggers × IsLawfulStmt vars body
IsLawfulDriver vars (driver.Instance made) =
    AllByRecursion (IsLawfulInput (widths_of vars)) made.inputs × AllByRecursion (λ (o : Output). IsLawfulJoined (widths_of vars) o.target) made.outputs

-- a variable whose initial value has its width; one without a range counts its bits from 0, and the highest position is below 2^32
pub record IsLawfulVar (v : Var) : Type 0 where
  pub initial : v.init.width ≡ v.width
  pub low : v.ranged ≡ false → v.low ≡ 0
  pub high : v.low + v.width ≤ 2 ^ 32

-- a lawful design: its variables and drivers are, and ports stand before what the module alone sees
pub record IsLawfulSpec (spec : Spec) : Type 0 where
  pub vars : AllByRecursion IsLawfulVar spec.vars
  pub drivers : AllByRecursion (IsLawfulDriver spec.vars) spec.drivers
  pub ports : HasPortsFirst spec
