use Rattle.std.proofs.Common.{◌≡◌, ◌++◌, drop, map}
use Rattle.driver_check.specs.code.Marks.{undriven}
use Rattle.driver_check.proofs.driven.undriven.Given as goal

-- the rows so far and those of the rest make all
abbrev pub invariant-loop-var : goal.invariant-loop-var
invariant-loop-var l = l.rows.items ++ map undriven (drop l.var-index l.vars) ≡ map undriven l.vars
