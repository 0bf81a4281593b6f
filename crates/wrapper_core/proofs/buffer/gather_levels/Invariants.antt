use Rattle.std.proofs.Common.{◌≡◌, length, take}
use Rattle.code_isa.specs.Traces.{levels_at}
use Rattle.wrapper_core.proofs.buffer.gather_levels.Given as goal

abbrev pub invariant-loop-k : goal.invariant-loop-k
invariant-loop-k l = record {
  sized : length l.buffer.items ≡ length l.clocks;
  levels : take l.k l.buffer.items ≡ take l.k (levels_at l.levels l.clocks);
}
