use Rattle.std.proofs.Common.{◌≡◌, length}
use Rattle.clock_domains.specs.code.Walking.{marked_refusals}
use Rattle.clock_domains.proofs.reads.check_reads.Given as goal

-- what is refused of the rest is all that is refused
abbrev pub invariant-loop-rest : goal.invariant-loop-rest
invariant-loop-rest l = marked_refusals l.vars l.clocks l.place l.rest ≡ marked_refusals l.vars l.clocks l.place l.reads

abbrev pub decreases-loop-rest : goal.decreases-loop-rest
decreases-loop-rest l = length l.rest
