use Rattle.std.proofs.Common.{arith}
use Rattle.std.proofs.lemmas.Grind.{common_steps}
use Rattle.module_parser.specs.Reading.{header_parameter}
use Rattle.module_parser.proofs.module.header_parameter.Goals as goal

pub returns : goal.returns
unfolding header_parameter
returns c = grind (arith, common_steps)
