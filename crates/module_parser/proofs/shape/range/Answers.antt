use Rattle.std.proofs.Common.{arith}
use Rattle.std.proofs.lemmas.Grind.{common_steps}
use Rattle.module_parser.specs.Reading.{range}
use Rattle.module_parser.proofs.shape.range.Goals as goal

pub returns : goal.returns
unfolding range
returns c = grind (arith, common_steps)
