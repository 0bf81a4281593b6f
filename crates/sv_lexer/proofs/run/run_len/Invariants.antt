use Rattle.std.proofs.Common.{◌≤◌, length, take, ◌-◌}
use Rattle.sv_lexer.specs.Bytes.{Each, is_in}
use Rattle.sv_lexer.proofs.run.run_len.Given as goal

abbrev pub invariant-loop-n : goal.invariant-loop-n
invariant-loop-n l = (l.n ≤ length l.bytes) × Each (is_in l.class) (take l.n l.bytes)

abbrev pub decreases-loop-n : goal.decreases-loop-n
decreases-loop-n l = length l.bytes - l.n
