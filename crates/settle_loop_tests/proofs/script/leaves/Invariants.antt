use Rattle.settle_loop_tests.specs.Board.{AreReady}
use Rattle.settle_loop_tests.proofs.script.leaves.Given as goal

abbrev pub invariant-loop-k : goal.invariant-loop-k
invariant-loop-k g l = AreReady l.leaves.items
