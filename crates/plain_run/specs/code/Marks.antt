-- What statements name, and whether event controls name clocks, by marks of variables.
use Rattle.std.specs.Prelude.{ℕ, Bool, true, false, ◌==◌, ◌&&◌, List, Option, None, Some, slice_get}
use Rattle.std.specs.List.{list_all}
use Rattle.net_ir.specs.declared.design.Role.{Role}
use Rattle.net_ir.specs.declared.design.Role.TheVariants.{Input, Output, Inner}
use Rattle.net_ir.specs.declared.design.Var.{Var}
use Rattle.net_ir.specs.declared.statement.Target.{Target}
use Rattle.net_ir.specs.declared.statement.Arm.{Arm}
use Rattle.net_ir.specs.declared.statement.Stmt.{Stmt}
use Rattle.net_ir.specs.declared.statement.Stmt.TheFolds.{fold-Arm}
use Rattle.net_ir.specs.declared.design.Trigger.{Trigger}
use Rattle.net_ir.specs.declared.design.Driver.{Driver}
use Rattle.net_ir.specs.declared.design.Driver.TheVariants as driver
use Rattle.net_ir.specs.declared.design.Driver.TheVariants.{Assign, Comb, Clocked}
use Rattle.net_ir.specs.Statement.{targets_of, targets_of_layer, arm_targets}
use Rattle.net_ir.specs.Marks.{is_clear}
use Rattle.plain_run.specs.Plain.{named_by}

-- the targets of the assignments in an arm
abbrev pub targets_of_arm : Arm → List Target
targets_of_arm = fold-Arm (List Target) (List Target) targets_of_layer arm_targets

-- the variables that the targets of a statement name, and those of an arm
abbrev pub named_in : Stmt → List ℕ
named_in statement = named_by (targets_of statement)

abbrev pub named_in_arm : Arm → List ℕ
named_in_arm arm = named_by (targets_of_arm arm)

-- whether a variable of this role is set from outside
abbrev pub is_input : Role → Bool
is_input Input = true
is_input Output = false
is_input Inner = false

-- whether a variable, if it is there, is an input of one bit without a mark
abbrev pub is_clock_if : Option Var → Bool → Bool
is_clock_if None clear = false
is_clock_if (Some v) clear = is_input v.role && v.width == 1 && clear

-- whether an event control names such a variable, where the marks are of what is read
abbrev pub is_clock : List Var → List Bool → Option ℕ → Bool
is_clock vars read None = false
is_clock vars read (Some x) = is_clock_if (slice_get vars x) (is_clear read x)

-- whether each of these event controls does
abbrev pub are_clocks : List Var → List Bool → List Trigger → Bool
are_clocks vars read triggers = list_all (λ (t : Trigger). is_clock vars read t.var) triggers

-- whether each event control of a driver does; only a clocked process has some
abbrev pub has_clocks : List Var → List Bool → Driver → Bool
has_clocks vars read (Assign target value place) = true
has_clocks vars read (Comb body place) = true
has_clocks vars read (Clocked triggers body place) = are_clocks vars read triggers
has_clocks vars read (driver.Instance made) = true
