use Rattle.std.proofs.Common.{arith}
use Rattle.std.proofs.lemmas.Grind.{common_steps}
use Rattle.module_parser.proofs.target.select_from.Goals as goal

pub returns-else-sees-3 : goal.returns-else-sees-3
returns-else-sees-3 c = grind (arith, common_steps)

pub returns-in_ok-first-2 : goal.returns-in_ok-first-2
returns-in_ok-first-2 c = grind (arith, common_steps)

pub returns-in_ok-first-3 : goal.returns-in_ok-first-3
returns-in_ok-first-3 c = grind (arith, common_steps)

pub returns-in_ok-first-4 : goal.returns-in_ok-first-4
returns-in_ok-first-4 c = grind (arith, common_steps)
