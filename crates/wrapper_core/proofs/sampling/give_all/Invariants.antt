use Rattle.std.proofs.Common.{◌≡◌, length}
use Rattle.bit_ops.specs.Lists.{words}
use Rattle.wrapper_core.specs.code.Blocks.{IsBlock, Keeps}
use Rattle.wrapper_core.proofs.Blocking.{left}
use Rattle.wrapper_core.proofs.Giving.{IsGiven}
use Rattle.wrapper_core.proofs.sampling.give_all.Given as goal

abbrev pub invariant-loop-r : goal.invariant-loop-r
invariant-loop-r l = record {
  block : IsBlock l.block;
  keeps : Keeps l.fn.block l.block;
  due : length l.due ≡ length l.fn.due;
  given : IsGiven (words l.fn.block.given.items) (words l.block.given.items) l.first (words l.next) l.due;
}

abbrev pub decreases-loop-r : goal.decreases-loop-r
decreases-loop-r l = left l.due
