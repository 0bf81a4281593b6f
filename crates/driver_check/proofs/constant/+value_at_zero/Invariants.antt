use Rattle.std.proofs.Common.{◌≡◌, ◌≤◌, length, map, take, []}
use Rattle.net_ir.specs.Value.{operands, operand_of, widths_of}
use Rattle.driver_check.proofs.constant.+value_at_zero.Given as goal

abbrev pub decreases-value_at_zero : goal.decreases-value_at_zero
decreases-value_at_zero l = goal.size-value_at_zero l

-- the operands so far
abbrev pub invariant-loop-arg : goal.invariant-loop-arg
invariant-loop-arg l = record {
  count : l.count ≡ l.arg-index;
  room : length l.given ≡ 3;
  few : length l.arg-items ≤ 3;
  so_far : operands (take l.arg-index l.given) ≡ map (operand_of (widths_of l.vars) []) (take l.arg-index l.arg-items);
}
