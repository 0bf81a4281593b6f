use Rattle.std.proofs.Common.{false}
use Rattle.width_rules.specs.Scope.{names_in}
use Rattle.width_rules.proofs.Constants.{differ_in_words}
use Rattle.width_rules.proofs.law.one_shape.Goals as goal

pub returns : goal.returns
returns c = λ scope u v e. c.words_of_nets.ensures (names_in scope u) (names_in scope v) (differ_in_words scope u v) false e
