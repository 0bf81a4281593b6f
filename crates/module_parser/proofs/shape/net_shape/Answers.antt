use Rattle.std.proofs.Common.{arith}
use Rattle.std.proofs.lemmas.Grind.{common_steps}
use Rattle.module_parser.specs.Reading.{net_shape}
use Rattle.module_parser.proofs.shape.net_shape.Goals as goal

pub returns : goal.returns
unfolding net_shape
returns c = grind (arith, common_steps)
