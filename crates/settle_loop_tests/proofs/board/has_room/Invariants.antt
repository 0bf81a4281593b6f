use Rattle.std.proofs.Common.{◌≡◌, ◌<◌, ◌≤◌, ℕ}
use Rattle.std.specs.Prelude.{slice_get, Some}
use Rattle.leaf_model.specs.declared.leaf.Leaf.{Leaf}
use Rattle.leaf_model.specs.Leaf.{model_of}
use Rattle.wrapper_core.specs.declared.wrapped.Wrapped.{Wrapped}
use Rattle.wrapper_core.specs.World.{moment_of}
use Rattle.settle_loop_tests.proofs.board.has_room.Given as goal

abbrev pub invariant-loop-i : goal.invariant-loop-i
invariant-loop-i l = (j : ℕ) (x : Wrapped Leaf) → j < l.i → slice_get (moment_of l.w).children j ≡ Some x → l.count ≤ (model_of x.child).room
