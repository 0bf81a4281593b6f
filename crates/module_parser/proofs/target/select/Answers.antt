use Rattle.std.proofs.Common.{arith}
use Rattle.std.proofs.lemmas.Grind.{common_steps}
use Rattle.module_parser.specs.Reading.{select}
use Rattle.module_parser.proofs.target.select.Goals as goal

pub returns : goal.returns
unfolding select
returns c = grind (arith, common_steps)
