use Rattle.std.proofs.Common.{arith}
use Rattle.std.proofs.lemmas.Grind.{common_steps}
use Rattle.module_parser.specs.Reading.{always}
use Rattle.module_parser.proofs.process.always.Goals as goal

pub returns : goal.returns
unfolding always
returns c = grind (arith, common_steps)
