use Rattle.std.proofs.Common.{◌≡◌, take}
use Rattle.code_isa.specs.Traces.{levels_at}
use Rattle.settle_loop_tests.proofs.fitting.are_levels.Given as goal

abbrev pub invariant-loop-k : goal.invariant-loop-k
invariant-loop-k l = take l.k l.own ≡ take l.k (levels_at l.levels l.clocks)
