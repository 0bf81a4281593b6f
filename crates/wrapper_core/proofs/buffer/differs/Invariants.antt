use Rattle.std.proofs.Common.{◌≡◌, take}
use Rattle.bit_ops.specs.Lists.{words}
use Rattle.code_isa.specs.Tree.{held_of, words_at}
use Rattle.wrapper_core.proofs.buffer.differs.Given as goal

abbrev pub invariant-loop-k : goal.invariant-loop-k
invariant-loop-k g l = take l.k (held_of (g.C.Child.model l.child).state) ≡ take l.k (words_at (words l.slots) l.places)
