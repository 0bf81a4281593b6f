use Rattle.settle_loop_tests.specs.Board.{IsBoard}
use Rattle.settle_loop_tests.proofs.script.play.Given as goal

abbrev pub invariant-loop-k : goal.invariant-loop-k
invariant-loop-k g l = IsBoard l.b.inputs l.b.clocks l.b.outputs l.b.registers l.b.world
