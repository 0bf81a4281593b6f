use Rattle.std.proofs.Common.{arith}
use Rattle.std.proofs.lemmas.Grind.{common_steps}
use Rattle.module_parser.specs.Reading.{target_level}
use Rattle.module_parser.proofs.target.Targets.target_level.Goals as goal

pub returns-else-sees : goal.returns-else-sees
unfolding target_level
returns-else-sees g c = grind (arith, common_steps)

pub returns-then-sees : goal.returns-then-sees
unfolding target_level
returns-then-sees g c = grind (arith, common_steps)
