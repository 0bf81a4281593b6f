use Rattle.std.proofs.Common.{◌≡◌, ◌++◌, ◌+◌, ◌≤◌, vec_len, vec_capacity}
use Rattle.sv_base.specs.TraceText.{hex_digits}
use Rattle.trace_writer.specs.Room.{value_text}
use Rattle.trace_writer.proofs.trace.push_value.Given as goal

-- the digits so far and those to come make all, and those to come have room
abbrev pub invariant-loop-place : goal.invariant-loop-place
invariant-loop-place l = record {
  text : l.into.items ++ hex_digits l.place l.value.word ≡ l.fn.into.items ++ value_text l.value;
  left : vec_len l.into + l.place ≤ vec_capacity l.into;
  room : vec_capacity l.into ≡ vec_capacity l.fn.into;
}
