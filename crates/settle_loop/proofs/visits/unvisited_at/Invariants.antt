use Rattle.std.proofs.Common.{◌≡◌, drop}
use Rattle.std.specs.Prelude.{slice_get}
use Rattle.wrapper_core.specs.World.{moment_of}
use Rattle.settle_loop.specs.Sweeps.{unset_from, unvisited}
use Rattle.settle_loop.proofs.visits.unvisited_at.Given as goal

abbrev pub invariant-loop-i : goal.invariant-loop-i
invariant-loop-i g l = slice_get (unset_from l.i (drop l.i (moment_of l.w).visited)) l.before ≡ slice_get (unvisited (moment_of l.w).visited) l.place
