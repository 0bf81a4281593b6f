use Rattle.std.proofs.Common.{◌≡◌, ◌+◌, ◌++◌, map, take, replicate}
use Rattle.bit_ops.specs.Lists.{words, widths}
use Rattle.code_isa.specs.Slots.{given_widths, first_instruction}
use Rattle.wrapper_core.proofs.block.zeros.Given as goal

abbrev pub invariant-loop-value : goal.invariant-loop-value
invariant-loop-value l = record {
  wide : widths l.slots.items ≡ take l.value-index (widths l.given);
  words : words l.slots.items ≡ replicate l.value-index 0;
}

abbrev pub invariant-loop-i : goal.invariant-loop-i
invariant-loop-i l = record {
  wide : widths l.slots.items ≡ given_widths l.m ++ take l.i-index (map (λ i. i.width) l.m.code);
  words : words l.slots.items ≡ replicate (first_instruction l.m + l.i-index) 0;
}
