use Rattle.std.proofs.Common.{arith}
use Rattle.std.proofs.lemmas.Grind.{common_steps}
use Rattle.module_parser.specs.Reading.{repetition}
use Rattle.module_parser.proofs.statement.Statements.repetition.Goals as goal

pub returns : goal.returns
unfolding repetition
returns g c = grind (arith, common_steps)
