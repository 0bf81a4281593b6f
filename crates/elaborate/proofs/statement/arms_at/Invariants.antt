use Rattle.std.proofs.Common.{◌≡◌, ◌++◌}
use Rattle.elaborate.specs.Statements as spec
use Rattle.elaborate.proofs.statement.arms_at.Given as goal

-- those that were taken and those that are left are all
abbrev pub invariant-loop-labels : goal.invariant-loop-labels
invariant-loop-labels l = (l.arms ++ spec.arms_of l.size l.signed l.labels-iterator.rest.items) ≡ spec.arms_of l.size l.signed l.fn.waiting
