use Rattle.std.proofs.Common.{◌≡◌, take}
use Rattle.bit_ops.specs.Lists.{widths}
use Rattle.code_isa.proofs.slots.zero_slots.Given as goal

abbrev pub invariant-loop-width : goal.invariant-loop-width
invariant-loop-width l = widths l.slots.items ≡ take l.width-index l.width-items
