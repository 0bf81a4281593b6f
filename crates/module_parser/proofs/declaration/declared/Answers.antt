use Rattle.std.proofs.Common.{arith}
use Rattle.std.proofs.lemmas.Grind.{common_steps}
use Rattle.module_parser.specs.Reading.{declared}
use Rattle.module_parser.proofs.declaration.declared.Goals as goal

pub returns : goal.returns
unfolding declared
returns c = grind (arith, common_steps)
