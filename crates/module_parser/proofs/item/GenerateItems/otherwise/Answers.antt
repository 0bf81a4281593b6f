use Rattle.std.proofs.Common.{arith}
use Rattle.std.proofs.lemmas.Grind.{common_steps}
use Rattle.module_parser.proofs.item.GenerateItems.otherwise.Goals as goal

pub returns : goal.returns
returns g c = grind (arith, common_steps)

pub returns-then-not-sees_word : goal.returns-then-not-sees_word
returns-then-not-sees_word g c = grind (arith, common_steps)
