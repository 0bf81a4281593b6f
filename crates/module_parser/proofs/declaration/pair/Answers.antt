use Rattle.std.proofs.Common.{arith}
use Rattle.std.proofs.lemmas.Grind.{common_steps}
use Rattle.module_parser.specs.Reading.{pair}
use Rattle.module_parser.proofs.declaration.pair.Goals as goal

pub returns : goal.returns
unfolding pair
returns c = grind (arith, common_steps)
