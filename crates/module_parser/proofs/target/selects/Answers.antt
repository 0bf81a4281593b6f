use Rattle.std.proofs.Common.{arith}
use Rattle.std.proofs.lemmas.Grind.{common_steps}
use Rattle.module_parser.specs.Reading.{selects}
use Rattle.module_parser.proofs.target.selects.Goals as goal

pub returns-in_ok-single_item : goal.returns-in_ok-single_item
unfolding selects
returns-in_ok-single_item c = grind (arith, common_steps)

pub returns-else-sees : goal.returns-else-sees
unfolding selects
returns-else-sees c = grind (arith, common_steps)
