use Rattle.std.proofs.Common.{arith}
use Rattle.std.proofs.lemmas.Grind.{common_steps}
use Rattle.module_parser.specs.Reading.{loop_head}
use Rattle.module_parser.proofs.item.GenerateItems.loop_head.Goals as goal

pub returns-in_ok-loop_header : goal.returns-in_ok-loop_header
unfolding loop_head
returns-in_ok-loop_header g c = grind (arith, common_steps)

pub returns-in_ok-loop_header-2 : goal.returns-in_ok-loop_header-2
unfolding loop_head
returns-in_ok-loop_header-2 g c = grind (arith, common_steps)
