use Rattle.std.proofs.Common.{arith}
use Rattle.std.proofs.lemmas.Grind.{common_steps}
use Rattle.module_parser.proofs.instance.maybe_joined.Goals as goal

pub returns-else-sees_no_sign : goal.returns-else-sees_no_sign
returns-else-sees_no_sign c = grind (arith, common_steps)

pub returns-in_ok-expression : goal.returns-in_ok-expression
returns-in_ok-expression c = grind (arith, common_steps)
