use Rattle.std.proofs.Common.{◌≡◌, take}
use Rattle.settle_loop_tests.proofs.fitting.are_ports.Given as goal

abbrev pub invariant-loop-k : goal.invariant-loop-k
invariant-loop-k l = take l.k l.ps ≡ take l.k l.qs
