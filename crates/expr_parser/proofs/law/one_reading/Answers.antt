use Rattle.expr_parser.proofs.Unique.{one_reading_lem}
use Rattle.expr_parser.proofs.law.one_reading.Goals as goal

pub returns : goal.returns
returns c = one_reading_lem
