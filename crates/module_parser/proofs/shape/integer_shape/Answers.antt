use Rattle.std.proofs.Common.{arith}
use Rattle.std.proofs.lemmas.Grind.{common_steps}
use Rattle.module_parser.specs.Reading.{integer_shape}
use Rattle.module_parser.proofs.shape.integer_shape.Goals as goal

pub returns : goal.returns
unfolding integer_shape
returns c = grind (arith, common_steps)
