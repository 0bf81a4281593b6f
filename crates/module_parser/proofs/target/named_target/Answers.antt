use Rattle.std.proofs.Common.{arith}
use Rattle.std.proofs.lemmas.Grind.{common_steps}
use Rattle.module_parser.specs.Reading.{named_target}
use Rattle.module_parser.proofs.target.named_target.Goals as goal

pub returns : goal.returns
unfolding named_target
returns c = grind (arith, common_steps)
