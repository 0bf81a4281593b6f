use Rattle.wrapper_core_tests.specs.Board.{AreReady}
use Rattle.wrapper_core_tests.proofs.script.leaves.Given as goal

abbrev pub invariant-loop-k : goal.invariant-loop-k
invariant-loop-k g l = AreReady l.leaves.items
