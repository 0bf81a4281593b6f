use Rattle.std.proofs.Common.{arith}
use Rattle.std.proofs.lemmas.Grind.{common_steps}
use Rattle.module_parser.specs.Reading.{instances}
use Rattle.module_parser.proofs.instance.instances.Goals as goal

pub returns : goal.returns
unfolding instances
returns c = grind (arith, common_steps)
