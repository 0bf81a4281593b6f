use Rattle.std.proofs.Common.{arith}
use Rattle.std.proofs.lemmas.Grind.{common_steps}
use Rattle.module_parser.proofs.statement.Statements.choice_front.Goals as goal

pub returns : goal.returns
returns g c = grind (arith, common_steps)

pub returns-in_err-test-2 : goal.returns-in_err-test-2
returns-in_err-test-2 g c = grind (arith, common_steps)
