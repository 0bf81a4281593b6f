use Rattle.std.proofs.Common.{◌≡◌, ◌++◌}
use Rattle.elaborate.specs.Statements as spec
use Rattle.elaborate.proofs.statement.labels_at.Given as goal

-- those that were taken and those that are left are all
abbrev pub invariant-loop-label : goal.invariant-loop-label
invariant-loop-label l = (l.found ++ spec.terms_of l.size l.signed l.label-iterator.rest.items) ≡ spec.terms_of l.size l.signed l.fn.labels
