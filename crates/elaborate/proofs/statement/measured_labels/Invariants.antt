use Rattle.std.proofs.Common.{◌≡◌, length}
use Rattle.elaborate.specs.Targets.{all_of}
use Rattle.elaborate.specs.Statements as spec
use Rattle.elaborate.specs.code.Walking.{seen_in}
use Rattle.elaborate.proofs.Behind.{behind}
use Rattle.elaborate.proofs.statement.measured_labels.Given as goal

-- those that were found and what the rest gives are what all give
abbrev pub invariant-loop-rest : goal.invariant-loop-rest
invariant-loop-rest l =
    behind l.found (all_of (spec.measured_each (seen_in l.walk) l.walk.scope.vars l.rest)) ≡ all_of (spec.measured_each (seen_in l.walk) l.walk.scope.vars l.labels)

abbrev pub decreases-loop-rest : goal.decreases-loop-rest
decreases-loop-rest l = length l.rest
