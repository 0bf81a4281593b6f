use Rattle.std.proofs.Common.{◌≡◌, length}
use Rattle.expr_parser.specs.Input as spec
use Rattle.expr_parser.proofs.cursor.past_marks.Given as goal

abbrev pub invariant-loop-rest : goal.invariant-loop-rest
invariant-loop-rest l = spec.past_marks l.rest ≡ spec.past_marks l.fn.tokens

abbrev pub decreases-loop-rest : goal.decreases-loop-rest
decreases-loop-rest l = length l.rest
