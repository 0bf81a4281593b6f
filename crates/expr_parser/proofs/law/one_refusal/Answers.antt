use Rattle.expr_parser.proofs.Unique.{one_refusal_lem}
use Rattle.expr_parser.proofs.law.one_refusal.Goals as goal

pub returns : goal.returns
returns c = one_refusal_lem
