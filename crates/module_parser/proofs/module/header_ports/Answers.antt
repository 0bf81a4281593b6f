use Rattle.std.proofs.Common.{arith}
use Rattle.std.proofs.lemmas.Grind.{common_steps}
use Rattle.module_parser.specs.Reading.{header_ports}
use Rattle.module_parser.proofs.module.header_ports.Goals as goal

pub returns-else-sees : goal.returns-else-sees
unfolding header_ports
returns-else-sees c = grind (arith, common_steps)
