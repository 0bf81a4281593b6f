use Rattle.std.proofs.Common.{◌≡◌, length}
use Rattle.clock_domains.specs.code.Walking.{connections_refused}
use Rattle.clock_domains.proofs.joins.check_connections.Given as goal

-- what is refused of the rest is all that is refused
abbrev pub invariant-loop-rest : goal.invariant-loop-rest
invariant-loop-rest l = connections_refused l.vars l.ports l.rest ≡ connections_refused l.vars l.ports l.inputs

abbrev pub decreases-loop-rest : goal.decreases-loop-rest
decreases-loop-rest l = length l.rest
