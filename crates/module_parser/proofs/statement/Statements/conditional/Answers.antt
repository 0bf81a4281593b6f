use Rattle.std.proofs.Common.{arith}
use Rattle.std.proofs.lemmas.Grind.{common_steps}
use Rattle.module_parser.specs.Reading.{conditional}
use Rattle.module_parser.proofs.statement.Statements.conditional.Goals as goal

pub returns : goal.returns
unfolding conditional
returns g c = grind (arith, common_steps)
