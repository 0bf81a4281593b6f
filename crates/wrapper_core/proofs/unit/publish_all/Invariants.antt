use Rattle.wrapper_core.specs.code.Cores.{IsCore, KeepsOwn}
use Rattle.wrapper_core.proofs.Publishing.{IsPublishedUpTo}
use Rattle.wrapper_core.proofs.unit.publish_all.Given as goal

abbrev pub invariant-loop-i : goal.invariant-loop-i
invariant-loop-i g l = record {
  core : IsCore g.C.Child.model g.C.Child.ready g.C.Child.struck l.block l.children.items l.buffers.items;
  keeps : KeepsOwn l.fn.block l.block;
  published : IsPublishedUpTo g.C.Child.model l.fn.children.items l.children.items l.i;
}
