use Rattle.std.proofs.Common.{◌≡◌, length, take}
use Rattle.bit_ops.specs.Lists.{words, widths}
use Rattle.leaf_model.specs.Leaf.{placed}
use Rattle.leaf_model.proofs.slots.put.Given as goal

abbrev pub invariant-loop-k : goal.invariant-loop-k
invariant-loop-k l = record {
  sized : length l.slots.items ≡ length l.fn.slots.items;
  words : words l.slots.items ≡ placed (words l.fn.slots.items) l.first (take l.k (words l.values));
  widths : widths l.slots.items ≡ placed (widths l.fn.slots.items) l.first (take l.k (widths l.values));
}
