use Rattle.linked_units.proofs.Trees.{tree_linked}
use Rattle.linked_units.proofs.law.trees_are_linked.Goals as goal

pub returns : goal.returns
returns c = λ units t n joined checked is. tree_linked units joined checked t n is
