use Rattle.std.proofs.Common.{arith}
use Rattle.std.proofs.lemmas.Grind.{common_steps}
use Rattle.module_parser.specs.Reading.{clocked}
use Rattle.module_parser.proofs.process.clocked.Goals as goal

pub returns : goal.returns
unfolding clocked
returns c = grind (arith, common_steps)
