use Rattle.std.proofs.Common.{arith}
use Rattle.std.proofs.lemmas.Grind.{common_steps}
use Rattle.module_parser.specs.Reading.{parameter}
use Rattle.module_parser.proofs.declaration.parameter.Goals as goal

pub returns : goal.returns
unfolding parameter
returns c = grind (arith, common_steps)
