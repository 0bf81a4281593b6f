-- Runs of bits that names, targets and statements may take.
use Rattle.std.specs.Prelude.{ℕ, ◌==◌, Bool, ◌||◌, ◌&&◌, nat_lt, nat_le, ⊤, ℤ, pos, ◌+ℤ◌, ◌-ℤ◌, int_lt, int_le, unsigned_abs, List, [], ◌∷◌, Option, None, Some, slice_get, if◌then◌else◌}
use Rattle.std.specs.List.{flat_map, list_any}
use Rattle.net_ir.specs.declared.design.Var.{Var}
use Rattle.net_ir.specs.declared.statement.Pos.{Pos}
use Rattle.net_ir.specs.declared.statement.Target.{Target}
use Rattle.net_ir.specs.declared.statement.Arm.{Arm}
use Rattle.net_ir.specs.declared.statement.Stmt.{Stmt}
use Rattle.net_ir.specs.declared.statement.Stmt.TheFolds.{every-Arm}
use Rattle.net_ir.specs.Lawful.{IsLawfulStmtLayer}
use Rattle.net_ir.specs.Value.{widths_of}
use Rattle.net_ir.specs.Target.{is_fixed, position_of}
use Rattle.net_ir.specs.Statement.{targets_of}
use Rattle.driver_check.specs.declared.runs.Run.{Run}
use Rattle.driver_check.specs.declared.runs.Taken.{Taken}
use Rattle.driver_check.specs.Written.{Named, names_of}

-- of n bits from a place on, those that a word of w bits has
abbrev pub covered : ℤ → ℕ → ℕ → Run
covered z n w =
    if int_le (z +ℤ pos n) (pos 0) || int_le (pos w) z
    then record { low = 0; end = 0 }
    else record { low = if int_lt z (pos 0) then 0 else unsigned_abs z; end = if int_lt (pos w) (z +ℤ pos n) then w else unsigned_abs (z +ℤ pos n) }

-- the bits that a position takes of a variable; where it is not constant it may take any
abbrev pub run_at : List ℕ → Var → Pos → Run
run_at ws v p = if is_fixed p then covered (position_of ws [] p -ℤ pos v.low) p.width v.width else record { low = 0; end = v.width }

-- the bits that a name takes of a variable
abbrev pub run_of : List ℕ → Var → Option Pos → Run
run_of ws v None = record { low = 0; end = v.width }
run_of ws v (Some p) = run_at ws v p

-- what a name takes, where the variable that it means is there
abbrev pub taken_at : List Var → ℕ → Option Var → Option Pos → List Taken
taken_at vars x None p = []
taken_at vars x (Some v) p = record { var = x; run = run_of (widths_of vars) v p } ∷ []

abbrev pub taken_of : List Var → Option ℕ → Option Pos → List Taken
taken_of vars None p = []
taken_of vars (Some x) p = taken_at vars x (slice_get vars x) p

abbrev pub taken_named : List Var → Named → List Taken
taken_named vars n = taken_of vars n.var n.pos

-- what a target takes, from left to right
abbrev pub taken_by : List Var → Target → List Taken
taken_by vars target = flat_map (taken_named vars) (names_of target)

-- what targets take, in the order of the text
abbrev pub taken_by_all : List Var → List Target → List Taken
taken_by_all vars targets = flat_map (taken_by vars) targets

abbrev pub taken_in : List Var → Stmt → List Taken
taken_in vars s = taken_by_all vars (targets_of s)

abbrev pub taken_in_arm : List Var → Arm → List Taken
taken_in_arm vars arm = taken_in vars arm.body

-- whether a run has bit k
abbrev pub in_run : Run → ℕ → Bool
in_run run k = nat_le run.low k && nat_lt k run.end

-- whether this takes bit k of variable x
abbrev pub has_bit : Taken → ℕ → ℕ → Bool
has_bit t x k = t.var == x && in_run t.run k

-- whether some of these takes bit k of variable x
abbrev pub any_has : List Taken → ℕ → ℕ → Bool
any_has taken x k = list_any (λ t. has_bit t x k) taken

-- an arm with a lawful body
abbrev pub IsLawfulInArm : List Var → Arm → Type 0
IsLawfulInArm vars = every-Arm (IsLawfulStmtLayer vars) (λ arm. ⊤)
