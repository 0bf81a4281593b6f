use Rattle.std.proofs.Common.{◌≡◌, ◌-◌, length, take}
use Rattle.wrapper_core.specs.Events.{Schedule, HasRoom}
use Rattle.wrapper_core.specs.World.{IsWorld, moment_of}
use Rattle.wrapper_core.proofs.events.run_events.Given as goal

abbrev pub invariant-loop-e : goal.invariant-loop-e
invariant-loop-e g l = record {
  world : IsWorld g.C.Child.model g.C.Child.ready g.C.Child.struck l.w;
  done : l.done ≡ l.e-index;
  schedule : Schedule g.C.Child.model (take l.e-index l.events.items) (moment_of l.fn.w) (moment_of l.w);
  room : HasRoom g.C.Child.model (length l.events.items - l.e-index) (moment_of l.w);
}
