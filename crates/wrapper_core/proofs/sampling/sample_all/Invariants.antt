use Rattle.std.proofs.Common.{◌≡◌, length}
use Rattle.bit_ops.specs.Lists.{words, widths}
use Rattle.wrapper_core.proofs.Clocking.{IsSampledUpTo}
use Rattle.wrapper_core.proofs.sampling.sample_all.Given as goal

abbrev pub invariant-loop-clock : goal.invariant-loop-clock
invariant-loop-clock l = record {
  wide : widths l.next.items ≡ widths l.fn.next.items;
  due : length l.due ≡ length l.fn.due;
  sampled : IsSampledUpTo l.regs (words l.slots) l.old l.new l.clock (words l.fn.next.items) (words l.next.items) l.due;
}
