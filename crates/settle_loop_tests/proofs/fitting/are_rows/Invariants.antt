use Rattle.std.proofs.Common.{◌≡◌, take}
use Rattle.settle_loop_tests.proofs.fitting.are_rows.Given as goal

abbrev pub invariant-loop-k : goal.invariant-loop-k
invariant-loop-k l = take l.k l.rows ≡ take l.k l.others
