use Rattle.std.proofs.Common.{arith}
use Rattle.std.proofs.lemmas.Grind.{common_steps}
use Rattle.module_parser.specs.Reading.{instance}
use Rattle.module_parser.proofs.instance.instance.Goals as goal

pub returns : goal.returns
unfolding instance
returns c = grind (arith, common_steps)
