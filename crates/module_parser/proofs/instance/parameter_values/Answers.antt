use Rattle.std.proofs.Common.{arith}
use Rattle.std.proofs.lemmas.Grind.{common_steps}
use Rattle.module_parser.proofs.instance.parameter_values.Goals as goal

pub returns-else-sees : goal.returns-else-sees
returns-else-sees c = grind (arith, common_steps)

pub returns-in_ok-expect : goal.returns-in_ok-expect
returns-in_ok-expect c = grind (arith, common_steps)
