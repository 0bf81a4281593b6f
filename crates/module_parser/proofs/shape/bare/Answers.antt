use Rattle.std.proofs.Common.{arith}
use Rattle.std.proofs.lemmas.Grind.{common_steps}
use Rattle.module_parser.specs.Reading.{bare}
use Rattle.module_parser.proofs.shape.bare.Goals as goal

pub returns : goal.returns
unfolding bare
returns c = grind (arith, common_steps)
