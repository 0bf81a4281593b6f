use Rattle.std.proofs.Common.{◌∙◌, inl, inr, sym, ap, subst}
use Rattle.std.specs.Prelude.{slice_get}
use Rattle.leaf_model.specs.Leaf.{IsReadyLeaf}
use Rattle.wrapper_core.proofs.Cores.{got_push}
use Rattle.settle_loop_tests.proofs.script.add.Goals as goal

pub returns : goal.returns
returns c = λ i x at.
    elim (got_push c.args.leaves.now.items c.args.leaf x i (ap (λ xs. slice_get xs i) (sym c.in_ok-push.ensures.items) ∙ at)) [
      | inl here ↦ subst IsReadyLeaf (sym here.1) c.requires.leaf
      | inr there ↦ c.requires.leaves i x there
    ]
