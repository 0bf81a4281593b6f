use Rattle.std.proofs.Common.{◌≡◌, length}
use Rattle.clock_domains.specs.code.Walking.{events_refused}
use Rattle.clock_domains.proofs.joins.check_events.Given as goal

-- what is refused of the rest is all that is refused
abbrev pub invariant-loop-rest : goal.invariant-loop-rest
invariant-loop-rest l = events_refused l.vars l.rest ≡ events_refused l.vars l.triggers

abbrev pub decreases-loop-rest : goal.decreases-loop-rest
decreases-loop-rest l = length l.rest
