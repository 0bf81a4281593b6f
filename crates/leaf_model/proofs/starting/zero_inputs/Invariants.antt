use Rattle.std.proofs.Common.{◌≡◌, take, replicate}
use Rattle.bit_ops.specs.Lists.{words, widths}
use Rattle.leaf_model.proofs.starting.zero_inputs.Given as goal

abbrev pub invariant-loop-width : goal.invariant-loop-width
invariant-loop-width l = record {
  widths : widths l.values.items ≡ take l.width-index l.width-items;
  words : words l.values.items ≡ replicate l.width-index 0;
}
