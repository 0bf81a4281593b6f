use Rattle.std.proofs.Common.{◌≡◌, length}
use Rattle.elaborate.specs.Statements as spec
use Rattle.elaborate.proofs.statement.meeting.Given as goal

-- what the rest makes of what was met is what the whole makes of the start
abbrev pub invariant-loop-rest : goal.invariant-loop-rest
invariant-loop-rest l =
    (spec.greatest l.greatest l.rest ≡ spec.greatest l.size l.labels) × (spec.are_signed l.all l.rest ≡ spec.are_signed l.signed l.labels)

abbrev pub decreases-loop-rest : goal.decreases-loop-rest
decreases-loop-rest l = length l.rest
