use Rattle.std.proofs.Common.{◌≡◌, take, replicate}
use Rattle.settle_loop_tests.proofs.fitting.are_all.Given as goal

abbrev pub invariant-loop-k : goal.invariant-loop-k
invariant-loop-k l = take l.k l.widths ≡ replicate l.k l.width
