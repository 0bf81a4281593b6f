use Rattle.std.proofs.Common.{◌≡◌, length, take}
use Rattle.bit_ops.specs.Lists.{words, widths}
use Rattle.code_isa.specs.Tree.{words_at}
use Rattle.leaf_model.proofs.slots.gather.Given as goal

abbrev pub invariant-loop-k : goal.invariant-loop-k
invariant-loop-k l = record {
  sized : length l.buffer.items ≡ length l.places;
  words : take l.k (words l.buffer.items) ≡ take l.k (words_at (words l.slots) l.places);
  widths : take l.k (widths l.buffer.items) ≡ take l.k (words_at (widths l.slots) l.places);
}
