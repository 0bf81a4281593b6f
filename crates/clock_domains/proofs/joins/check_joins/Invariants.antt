use Rattle.std.proofs.Common.{◌≡◌, length}
use Rattle.clock_domains.specs.Each.{of_each}
use Rattle.clock_domains.specs.Clocks.{joins_refused}
use Rattle.clock_domains.proofs.joins.check_joins.Given as goal

-- what is refused of the rest is all that is refused
abbrev pub invariant-loop-rest : goal.invariant-loop-rest
invariant-loop-rest l = of_each (joins_refused l.vars) l.rest l.faces ≡ of_each (joins_refused l.vars) l.drivers l.children

abbrev pub decreases-loop-rest : goal.decreases-loop-rest
decreases-loop-rest l = length l.rest
