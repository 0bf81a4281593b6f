use Rattle.std.proofs.Common.{◌≡◌, ◌<◌, ℕ}
use Rattle.std.specs.Prelude.{slice_get, Some}
use Rattle.code_isa.specs.declared.machine.Kid.{Kid}
use Rattle.leaf_model.specs.declared.leaf.Leaf.{Leaf}
use Rattle.leaf_model.specs.Leaf.{model_of, IsReadyLeaf}
use Rattle.wrapper_core.specs.Start.{IsJoined}
use Rattle.settle_loop_tests.proofs.fitting.are_joined.Given as goal

abbrev pub invariant-loop-k : goal.invariant-loop-k
invariant-loop-k l =
    (j : ℕ) (kid : Kid) (leaf : Leaf) → j < l.k → slice_get l.m.kids j ≡ Some kid → slice_get l.leaves j ≡ Some leaf →
    IsJoined model_of IsReadyLeaf l.levels kid leaf
