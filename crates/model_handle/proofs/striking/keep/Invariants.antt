use Rattle.std.proofs.Common.{◌≡◌, length, take}
use Rattle.bit_ops.specs.Lists.{words, widths}
use Rattle.code_isa.specs.Faces.{output_count, output_widths}
use Rattle.code_isa.specs.Tree.{words_at}
use Rattle.wrapper_core.specs.World.{moment_of}
use Rattle.model_handle.proofs.striking.keep.Given as goal

abbrev pub invariant-loop-k : goal.invariant-loop-k
invariant-loop-k g l = record {
  sized : length l.shown.items ≡ output_count (moment_of l.w).code.face;
  words : take l.k (words l.shown.items) ≡ take l.k (words_at (moment_of l.w).slots (moment_of l.w).code.outs);
  widths : take l.k (widths l.shown.items) ≡ take l.k (output_widths (moment_of l.w).code.face);
}
