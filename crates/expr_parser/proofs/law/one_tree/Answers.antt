use Rattle.expr_parser.proofs.Complete.{one_tree_lem}
use Rattle.expr_parser.proofs.law.one_tree.Goals as goal

pub returns : goal.returns
returns c = one_tree_lem
