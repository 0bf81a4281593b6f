use Rattle.std.proofs.Common.{◌≡◌, length}
use Rattle.wrapper_core.specs.World.{IsWorld, moment_of}
use Rattle.settle_loop.specs.Sweeps.{unmarked, unvisited, IsVisitedBelow, IsSweeping}
use Rattle.settle_loop.proofs.Sweeping.{IsUnder}
use Rattle.settle_loop.proofs.settling.sweep.Given as goal

abbrev pub invariant-visits : goal.invariant-visits
invariant-visits g l = record {
  world : IsWorld g.C.Child.model g.C.Child.ready g.C.Child.struck l.w;
  left : l.left ≡ length (unvisited (moment_of l.w).visited);
  visits : IsSweeping g.C.Child.model (λ sweep left answer. g.F.Fn.post l.order.f (sweep, (left, tt)) answer) l.number (moment_of l.fn.w) (unvisited (moment_of l.w).visited) (unmarked (moment_of l.w));
  first : IsVisitedBelow l.first (moment_of l.w).visited;
  under : IsUnder g.C.Child.model (moment_of l.fn.w) (moment_of l.w);
}

abbrev pub decreases-visits : goal.decreases-visits
decreases-visits g l = l.left
