use Rattle.std.proofs.Common.{arith}
use Rattle.std.proofs.lemmas.Grind.{common_steps}
use Rattle.module_parser.specs.Reading.{further_port}
use Rattle.module_parser.proofs.module.further_port.Goals as goal

pub returns-in_ok-name : goal.returns-in_ok-name
unfolding further_port
returns-in_ok-name c = grind (arith, common_steps)
