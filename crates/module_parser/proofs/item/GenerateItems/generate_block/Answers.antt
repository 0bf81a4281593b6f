use Rattle.std.proofs.Common.{arith}
use Rattle.std.proofs.lemmas.Grind.{common_steps}
use Rattle.module_parser.specs.Reading.{generate_block}
use Rattle.module_parser.proofs.item.GenerateItems.generate_block.Goals as goal

pub returns-in_ok-items : goal.returns-in_ok-items
unfolding generate_block
returns-in_ok-items g c = grind (arith, common_steps)

pub returns-then-sees_word : goal.returns-then-sees_word
unfolding generate_block
returns-then-sees_word g c = grind (arith, common_steps)
