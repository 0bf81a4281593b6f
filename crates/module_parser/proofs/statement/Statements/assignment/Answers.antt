use Rattle.std.proofs.Common.{arith}
use Rattle.std.proofs.lemmas.Grind.{common_steps}
use Rattle.module_parser.specs.Reading.{assignment}
use Rattle.module_parser.proofs.statement.Statements.assignment.Goals as goal

pub returns : goal.returns
unfolding assignment
returns g c = grind (arith, common_steps)
