use Rattle.expr_parser.proofs.Exact.{exact_reading_lem}
use Rattle.expr_parser.proofs.law.exact_reading.Goals as goal

pub returns : goal.returns
returns c = exact_reading_lem
