use Rattle.expr_parser.proofs.Exact.{nothing_goes_on_lem}
use Rattle.expr_parser.proofs.law.nothing_goes_on.Goals as goal

pub returns : goal.returns
returns c = nothing_goes_on_lem
