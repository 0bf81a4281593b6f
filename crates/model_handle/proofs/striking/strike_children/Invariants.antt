use Rattle.wrapper_core.specs.World.{IsWorld, moment_of}
use Rattle.model_handle.specs.Striking.{StrikesFirst}
use Rattle.model_handle.proofs.striking.strike_children.Given as goal

abbrev pub invariant-loop-i : goal.invariant-loop-i
invariant-loop-i g l = record {
  world : IsWorld g.C.Child.model g.C.Child.ready g.C.Child.struck l.w;
  strikes : StrikesFirst g.C.Child.model l.i (moment_of l.fn.w) (moment_of l.w);
}
