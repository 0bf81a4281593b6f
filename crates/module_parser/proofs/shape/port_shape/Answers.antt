use Rattle.std.proofs.Common.{arith}
use Rattle.std.proofs.lemmas.Grind.{common_steps}
use Rattle.module_parser.specs.Reading.{port_shape}
use Rattle.module_parser.proofs.shape.port_shape.Goals as goal

pub returns-else-sees_word : goal.returns-else-sees_word
unfolding port_shape
returns-else-sees_word c = grind (arith, common_steps)

pub returns-then-sees_word : goal.returns-then-sees_word
unfolding port_shape
returns-then-sees_word c = grind (arith, common_steps)
