use Rattle.std.proofs.Common.{arith}
use Rattle.std.proofs.lemmas.Grind.{common_steps}
use Rattle.module_parser.specs.Reading.{target_list}
use Rattle.module_parser.proofs.target.Targets.target_list.Goals as goal

pub returns : goal.returns
unfolding target_list
returns g c = grind (arith, common_steps)
