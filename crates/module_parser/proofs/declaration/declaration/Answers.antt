use Rattle.std.proofs.Common.{arith}
use Rattle.std.proofs.lemmas.Grind.{common_steps}
use Rattle.module_parser.specs.Reading.{declaration}
use Rattle.module_parser.proofs.declaration.declaration.Goals as goal

pub returns : goal.returns
unfolding declaration
returns c = grind (arith, common_steps)
