use Rattle.std.proofs.Common.{arith}
use Rattle.std.proofs.lemmas.Grind.{common_steps}
use Rattle.module_parser.proofs.shape.maybe_range.Goals as goal

pub returns-else-sees : goal.returns-else-sees
returns-else-sees c = grind (arith, common_steps)

pub returns-in_ok-range : goal.returns-in_ok-range
returns-in_ok-range c = grind (arith, common_steps)
