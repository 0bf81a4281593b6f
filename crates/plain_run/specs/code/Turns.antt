-- Drivers from the last to the first, with a mark for each variable that a later one writes, and another for each that a later
-- one gives at all times.
use Rattle.std.specs.Prelude.{ℕ, Bool, true, false, not, ◌&&◌, List, [], Option, None, Some, slice_get}
use Rattle.std.specs.List.{list_all}
use Rattle.net_ir.specs.declared.design.Var.{Var}
use Rattle.net_ir.specs.declared.design.Driver.{Driver}
use Rattle.net_ir.specs.declared.design.Driver.TheVariants as driver
use Rattle.net_ir.specs.declared.design.Driver.TheVariants.{Assign, Comb, Clocked}
use Rattle.net_ir.specs.Value.{reads_of}
use Rattle.net_ir.specs.Target.{target_vars}
use Rattle.net_ir.specs.Marks.{mark_all, is_clear}
use Rattle.plain_run.specs.code.Marks.{is_input, named_in}

-- whether a variable, if it is there, is set from outside
abbrev pub input_if : Option Var → Bool
input_if None = false
input_if (Some v) = is_input v.role

-- whether a variable is no input and has no mark
abbrev pub is_free : List Var → List Bool → ℕ → Bool
is_free vars marks x = is_clear marks x && not (input_if (slice_get vars x))

-- whether each of these variables is such a one
abbrev pub are_free : List Var → List Bool → List ℕ → Bool
are_free vars marks names = list_all (λ x. is_free vars marks x) names

-- whether none of the variables that are read has a mark
abbrev pub are_clear : List Bool → List ℕ → Bool
are_clear marks reads = list_all (λ x. is_clear marks x) reads

-- the variables that the targets of a driver name, but those that an instance's outputs are joined to
abbrev pub names_of : Driver → List ℕ
names_of (Assign target value place) = target_vars target
names_of (Comb body place) = named_in body
names_of (Clocked triggers body place) = named_in body
names_of (driver.Instance made) = []

-- those of the variables that a continuous assignment gives at all times
abbrev pub given_by : Driver → List ℕ → List ℕ
given_by (Assign target value place) names = names
given_by (Comb body place) names = []
given_by (Clocked triggers body place) names = []
given_by (driver.Instance made) names = []

-- whether the value of a continuous assignment reads no variable with a mark; constant positions read none
abbrev pub is_settled : Driver → List Bool → Bool
is_settled (Assign target value place) driven = are_clear driven (reads_of value)
is_settled (Comb body place) driven = true
is_settled (Clocked triggers body place) driven = true
is_settled (driver.Instance made) driven = true

-- whether a driver may stand before those that made the marks: its variables are free, and a continuous assignment reads
-- nothing that it or they give at all times
abbrev pub takes_turn : List Var → Driver → List Bool → List Bool → Bool
takes_turn vars d written driven = are_free vars written (names_of d) && is_settled d (mark_all (given_by d (names_of d)) driven)
