use Rattle.std.proofs.Common.{ℕ, ◌<◌}
use Rattle.wrapper_core.specs.Events.{IsUpdatable}
use Rattle.wrapper_core.specs.World.{moment_of}
use Rattle.settle_loop.proofs.visits.is_stale.Given as goal

abbrev pub invariant-loop-i : goal.invariant-loop-i
invariant-loop-i g l = (j : ℕ) → j < l.i → IsUpdatable g.C.Child.model (moment_of l.w) j → ⊥
