use Rattle.expr_parser.proofs.Unique.{not_both_lem}
use Rattle.expr_parser.proofs.law.not_both.Goals as goal

pub returns : goal.returns
returns c = not_both_lem
