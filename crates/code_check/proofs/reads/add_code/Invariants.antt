use Rattle.std.proofs.Common.{◌≡◌, ◌++◌, map, take}
use Rattle.code_isa.specs.Slots.{operand_slots}
use Rattle.code_check.proofs.reads.add_code.Given as goal

abbrev pub invariant-loop-i : goal.invariant-loop-i
invariant-loop-i l = l.rows ≡ l.fn.rows ++ map operand_slots (take l.i-index l.code)
