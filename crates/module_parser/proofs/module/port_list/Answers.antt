use Rattle.std.proofs.Common.{arith}
use Rattle.std.proofs.lemmas.Grind.{common_steps}
use Rattle.module_parser.proofs.module.port_list.Goals as goal

pub returns-else-sees_no_sign : goal.returns-else-sees_no_sign
returns-else-sees_no_sign c = grind (arith, common_steps)
