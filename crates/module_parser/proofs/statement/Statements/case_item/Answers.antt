use Rattle.std.proofs.Common.{arith}
use Rattle.std.proofs.lemmas.Grind.{common_steps}
use Rattle.module_parser.specs.Reading.{case_item}
use Rattle.module_parser.proofs.statement.Statements.case_item.Goals as goal

pub returns-else-sees_default : goal.returns-else-sees_default
unfolding case_item
returns-else-sees_default g c = grind (arith, common_steps)

pub returns-then-sees_default : goal.returns-then-sees_default
unfolding case_item
returns-then-sees_default g c = grind (arith, common_steps)
