use Rattle.std.proofs.Common.{arith}
use Rattle.std.proofs.lemmas.Grind.{common_steps}
use Rattle.module_parser.specs.Reading.{labelled_item}
use Rattle.module_parser.proofs.statement.Statements.labelled_item.Goals as goal

pub returns : goal.returns
unfolding labelled_item
returns g c = grind (arith, common_steps)
