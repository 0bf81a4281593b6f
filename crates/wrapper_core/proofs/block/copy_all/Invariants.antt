use Rattle.std.proofs.Common.{◌≡◌, length}
use Rattle.bit_ops.specs.Lists.{words, widths}
use Rattle.code_isa.specs.Slots.{slot_widths, first_instruction}
use Rattle.code_isa.specs.Activity.{HaveValuesBut}
use Rattle.wrapper_core.specs.code.Blocks.{IsCopied}
use Rattle.wrapper_core.proofs.Blocking.{left}
use Rattle.wrapper_core.proofs.block.copy_all.Given as goal

abbrev pub invariant-loop-s : goal.invariant-loop-s
invariant-loop-s l = record {
  shape : widths l.slots.items ≡ slot_widths l.m;
  waiting : length l.waiting ≡ first_instruction l.m;
  marks : length l.marks ≡ length l.m.code;
  copied : IsCopied (first_instruction l.m) l.waiting (words l.slots.items) (words l.given);
  settled : HaveValuesBut l.m l.marks (words l.slots.items);
}

abbrev pub decreases-loop-s : goal.decreases-loop-s
decreases-loop-s l = left l.waiting
