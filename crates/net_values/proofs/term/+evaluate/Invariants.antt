use Rattle.std.proofs.Common.{◌≡◌, ◌≤◌, length, map, take}
use Rattle.bit_ops.specs.Lists.{words, widths}
use Rattle.net_ir.specs.Value.{operands, operand_of}
use Rattle.net_values.proofs.term.+evaluate.Given as goal

abbrev pub decreases-evaluate : goal.decreases-evaluate
decreases-evaluate l = goal.size-evaluate l

-- the operands so far
abbrev pub invariant-loop-arg : goal.invariant-loop-arg
invariant-loop-arg l = record {
  count : l.count ≡ l.arg-index;
  room : length l.given ≡ 3;
  few : length l.arg-items ≤ 3;
  so_far : operands (take l.arg-index l.given) ≡ map (operand_of (widths l.values) (words l.values)) (take l.arg-index l.arg-items);
}
