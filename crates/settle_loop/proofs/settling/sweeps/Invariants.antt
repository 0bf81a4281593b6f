use Rattle.std.proofs.Common.{◌≡◌, ℕ, ◌+◌, ◌-◌, ◌≤◌, List}
use Rattle.code_isa.specs.Tree.{States}
use Rattle.wrapper_core.specs.World.{IsWorld, moment_of}
use Rattle.settle_loop.specs.Sweeps.{unmarked, Sweeps}
use Rattle.settle_loop.specs.Kept.{Keeps}
use Rattle.settle_loop.specs.Finality.{IsFresh, IsEnd, IsFinal}
use Rattle.settle_loop.proofs.settling.sweeps.Given as goal

abbrev pub invariant-sweeps : goal.invariant-sweeps
invariant-sweeps g l = record {
  world : IsWorld g.C.Child.model g.C.Child.ready g.C.Child.struck l.w;
  clear : moment_of l.w ≡ unmarked (moment_of l.w);
  fresh : IsFresh (moment_of l.w);
  sweeps : Sweeps g.C.Child.model (λ sweep left answer. g.F.Fn.post l.order.f (sweep, (left, tt)) answer) l.count (moment_of l.fn.w) (moment_of l.w);
  keeps : Keeps g.C.Child.model l.count (moment_of l.fn.w) (moment_of l.w);
  within : l.count ≤ (moment_of l.fn.w).code.chain + 1;
  nearer : (u : List ℕ) (states : States) → IsEnd g.C.Child.model (moment_of l.fn.w) u states → IsEnd g.C.Child.model (moment_of l.w) u states × IsFinal g.C.Child.model l.count u (moment_of l.w);
}

abbrev pub decreases-sweeps : goal.decreases-sweeps
decreases-sweeps g l = (moment_of l.fn.w).code.chain + 1 - l.count
