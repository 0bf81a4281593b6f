use Rattle.linked_units.proofs.Trees.{tree_exists}
use Rattle.linked_units.proofs.law.tree_of_each_unit.Goals as goal

pub returns : goal.returns
returns c = tree_exists
