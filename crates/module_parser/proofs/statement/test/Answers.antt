use Rattle.expr_parser.specs.Reading.{any}
use Rattle.module_parser.proofs.statement.test.Goals as goal

pub returns : goal.returns
returns c = c.parenthesised.ensures any (λ alloc old new r h. h.1)
