use Rattle.std.proofs.Common.{◌≡◌, ◌++◌, ◌+◌, ◌≤◌, drop, vec_len, vec_capacity}
use Rattle.std.specs.Fmt.{decimal}
use Rattle.bit_ops.specs.Lists.{widths}
use Rattle.trace_writer.specs.Room.{values_text, values_room}
use Rattle.trace_writer.proofs.trace.line.Given as goal

-- the values so far and those to come make all, and those to come have room
abbrev pub invariant-loop-value : goal.invariant-loop-value
invariant-loop-value l = record {
  text : l.into.items ++ values_text (drop l.value-index l.values) ≡ decimal l.number ++ values_text l.values;
  left : vec_len l.into + values_room (widths (drop l.value-index l.values)) + 1 ≤ vec_capacity l.into;
  room : vec_capacity l.into ≡ vec_capacity l.fn.into;
}
