use Rattle.std.proofs.Common.{arith}
use Rattle.std.proofs.lemmas.Grind.{common_steps}
use Rattle.module_parser.proofs.declaration.maybe_value.Goals as goal

pub returns-else-sees : goal.returns-else-sees
returns-else-sees c = grind (arith, common_steps)

pub returns-in_ok-value : goal.returns-in_ok-value
returns-in_ok-value c = grind (arith, common_steps)
