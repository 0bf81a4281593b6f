use Rattle.expr_parser.proofs.Depths.{one_nesting_lem}
use Rattle.expr_parser.proofs.law.one_nesting.Goals as goal

pub returns : goal.returns
returns c = one_nesting_lem
