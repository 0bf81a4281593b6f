use Rattle.std.proofs.Common.{arith}
use Rattle.std.proofs.lemmas.Grind.{common_steps}
use Rattle.module_parser.specs.Reading.{ordered_arg}
use Rattle.module_parser.proofs.instance.ordered_arg.Goals as goal

pub returns : goal.returns
unfolding ordered_arg
returns c = grind (arith, common_steps)
