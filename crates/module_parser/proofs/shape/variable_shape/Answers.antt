use Rattle.std.proofs.Common.{arith}
use Rattle.std.proofs.lemmas.Grind.{common_steps}
use Rattle.module_parser.specs.Reading.{variable_shape}
use Rattle.module_parser.proofs.shape.variable_shape.Goals as goal

pub returns-else-sees_word_of-2 : goal.returns-else-sees_word_of-2
unfolding variable_shape
returns-else-sees_word_of-2 c = grind (arith, common_steps)

pub returns-then-sees_word_of : goal.returns-then-sees_word_of
unfolding variable_shape
returns-then-sees_word_of c = grind (arith, common_steps)

pub returns-then-sees_word_of-2 : goal.returns-then-sees_word_of-2
unfolding variable_shape
returns-then-sees_word_of-2 c = grind (arith, common_steps)
