use Rattle.std.proofs.Common.{arith}
use Rattle.std.proofs.lemmas.Grind.{common_steps}
use Rattle.module_parser.specs.Reading.{connected}
use Rattle.module_parser.proofs.instance.connected.Goals as goal

pub returns-in_ok-copied : goal.returns-in_ok-copied
unfolding connected
returns-in_ok-copied c = grind (arith, common_steps)

pub returns-in_ok-value : goal.returns-in_ok-value
unfolding connected
returns-in_ok-value c = grind (arith, common_steps)
