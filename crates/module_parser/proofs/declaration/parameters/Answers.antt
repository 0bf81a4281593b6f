use Rattle.std.proofs.Common.{arith}
use Rattle.std.proofs.lemmas.Grind.{common_steps}
use Rattle.module_parser.specs.Reading.{parameters}
use Rattle.module_parser.proofs.declaration.parameters.Goals as goal

pub returns : goal.returns
unfolding parameters
returns c = grind (arith, common_steps)
