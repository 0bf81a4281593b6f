use Rattle.std.proofs.Common.{◌≡◌, ◌≤◌}
use Rattle.std.specs.Prelude.{slice_index}
use Rattle.bit_ops.specs.Lists.{words, widths}
use Rattle.net_ir.specs.Target.{overlaid, bits_to}
use Rattle.net_values.proofs.target.write_bits.Given as goal

-- the bits so far are written
abbrev pub invariant-loop-n : goal.invariant-loop-n
invariant-loop-n l = record {
  counted : l.n ≤ l.width;
  same_widths : widths l.values ≡ widths l.fn.values;
  so_far : words l.values ≡ overlaid (words l.fn.values) (bits_to l.x (slice_index (widths l.fn.values) l.x) l.first l.n l.word);
}
