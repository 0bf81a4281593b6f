use Rattle.std.proofs.Common.{arith}
use Rattle.std.proofs.lemmas.Grind.{common_steps}
use Rattle.module_parser.specs.Reading.{step}
use Rattle.module_parser.proofs.repetition.step.Goals as goal

pub returns-in_ok-expression : goal.returns-in_ok-expression
unfolding step
returns-in_ok-expression c = grind (arith, common_steps)

pub returns-in_ok-sign : goal.returns-in_ok-sign
unfolding step
returns-in_ok-sign c = grind (arith, common_steps)
