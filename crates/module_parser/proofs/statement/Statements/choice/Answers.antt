use Rattle.std.proofs.Common.{arith}
use Rattle.std.proofs.lemmas.Grind.{common_steps}
use Rattle.module_parser.specs.Reading.{choice}
use Rattle.module_parser.proofs.statement.Statements.choice.Goals as goal

pub returns : goal.returns
unfolding choice
returns g c = grind (arith, common_steps)
