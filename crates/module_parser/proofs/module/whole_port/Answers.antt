use Rattle.std.proofs.Common.{arith}
use Rattle.std.proofs.lemmas.Grind.{common_steps}
use Rattle.module_parser.specs.Reading.{whole_port}
use Rattle.module_parser.proofs.module.whole_port.Goals as goal

pub returns : goal.returns
unfolding whole_port
returns c = grind (arith, common_steps)
