use Rattle.std.proofs.Common.{◌≡◌, length}
use Rattle.elaborate.specs.Statements as spec
use Rattle.elaborate.proofs.statement.meeting_arms.Given as goal

-- what the rest makes of what was met is what the whole makes of the start
abbrev pub invariant-loop-rest : goal.invariant-loop-rest
invariant-loop-rest l =
    (spec.case_size l.greatest l.rest ≡ spec.case_size l.size l.arms) × (spec.case_signed l.all l.rest ≡ spec.case_signed l.signed l.arms)

abbrev pub decreases-loop-rest : goal.decreases-loop-rest
decreases-loop-rest l = length l.rest
