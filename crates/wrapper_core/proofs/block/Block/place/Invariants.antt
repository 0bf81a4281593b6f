use Rattle.std.proofs.Common.{◌≡◌, take}
use Rattle.bit_ops.specs.Lists.{words}
use Rattle.wrapper_core.specs.code.Blocks.{IsBlock, Keeps, placed}
use Rattle.wrapper_core.proofs.block.Block.place.Given as goal

abbrev pub invariant-loop-k : goal.invariant-loop-k
invariant-loop-k l = record {
  block : IsBlock l.self;
  keeps : Keeps l.fn.self l.self;
  given : words l.self.given.items ≡ placed (words l.fn.self.given.items) l.first (take l.k (words l.values));
}
