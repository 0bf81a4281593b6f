use Rattle.std.proofs.Common.{◌≡◌, replicate}
use Rattle.bit_ops.specs.Lists.{widths}
use Rattle.settle_loop_tests.proofs.board.nibbles.Given as goal

abbrev pub invariant-loop-value : goal.invariant-loop-value
invariant-loop-value l = widths l.bits.items ≡ replicate l.value-index 4
