use Rattle.std.proofs.Common.{arith}
use Rattle.std.proofs.lemmas.Grind.{common_steps}
use Rattle.module_parser.specs.Reading.{default_item}
use Rattle.module_parser.proofs.statement.Statements.default_item.Goals as goal

pub returns : goal.returns
unfolding default_item
returns g c = grind (arith, common_steps)
