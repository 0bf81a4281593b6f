use Rattle.std.proofs.Common.{arith}
use Rattle.std.proofs.lemmas.Grind.{common_steps}
use Rattle.module_parser.specs.Reading.{generate_loop}
use Rattle.module_parser.proofs.item.GenerateItems.generate_loop.Goals as goal

pub returns : goal.returns
unfolding generate_loop
returns g c = grind (arith, common_steps)
