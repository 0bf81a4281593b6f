use Rattle.std.proofs.Common.{◌<◌, ℕ}
use Rattle.wrapper_core.specs.World.{moment_of}
use Rattle.wrapper_core.specs.Events.{IsUpdatable}
use Rattle.settle_loop_tests.proofs.board.is_quiet.Given as goal

abbrev pub invariant-loop-i : goal.invariant-loop-i
invariant-loop-i g l = (j : ℕ) → j < l.i → IsUpdatable g.C.Child.model (moment_of l.w) j → ⊥
