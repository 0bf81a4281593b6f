use Rattle.std.proofs.Common.{arith}
use Rattle.std.proofs.lemmas.Grind.{common_steps}
use Rattle.module_parser.specs.Reading.{header_parameters}
use Rattle.module_parser.proofs.module.header_parameters.Goals as goal

pub returns-else-sees : goal.returns-else-sees
unfolding header_parameters
returns-else-sees c = grind (arith, common_steps)

pub returns-in_ok-expect : goal.returns-in_ok-expect
unfolding header_parameters
returns-in_ok-expect c = grind (arith, common_steps)
