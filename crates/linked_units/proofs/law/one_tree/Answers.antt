use Rattle.linked_units.proofs.Trees.{one_tree}
use Rattle.linked_units.proofs.law.one_tree.Goals as goal

pub returns : goal.returns
returns c = one_tree
