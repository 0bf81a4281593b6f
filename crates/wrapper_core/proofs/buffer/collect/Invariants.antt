use Rattle.std.proofs.Common.{◌≡◌, length, take}
use Rattle.bit_ops.specs.Lists.{words, widths}
use Rattle.code_isa.specs.Faces.{output_count, output_widths}
use Rattle.code_isa.specs.Tree.{top_of}
use Rattle.wrapper_core.proofs.buffer.collect.Given as goal

abbrev pub invariant-loop-k : goal.invariant-loop-k
invariant-loop-k g l = record {
  sized : length l.buffer.items ≡ output_count (top_of (g.C.Child.model l.child).tree).face;
  words : take l.k (words l.buffer.items) ≡ take l.k (g.C.Child.model l.child).shown;
  widths : take l.k (widths l.buffer.items) ≡ take l.k (output_widths (top_of (g.C.Child.model l.child).tree).face);
}
