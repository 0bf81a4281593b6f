use Rattle.std.proofs.Common.{arith}
use Rattle.std.proofs.lemmas.Grind.{common_steps}
use Rattle.module_parser.specs.Reading.{block}
use Rattle.module_parser.proofs.statement.Statements.block.Goals as goal

pub returns : goal.returns
unfolding block
returns g c = grind (arith, common_steps)
