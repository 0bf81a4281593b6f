use Rattle.std.proofs.Common.{◌≡◌, ℕ, ◌+◌, ◌<◌}
use Rattle.std.specs.Prelude.{All, slice_get, Some}
use Rattle.code_isa.specs.declared.machine.Instr.{Instr}
use Rattle.code_isa.specs.Slots.{operand_slots}
use Rattle.code_check.proofs.order.are_operands_ordered.Given as goal

abbrev pub invariant-loop-k : goal.invariant-loop-k
invariant-loop-k l = (j : ℕ) (i : Instr) → j < l.k → slice_get l.code j ≡ Some i → All (λ slot. slot < l.first + j) (operand_slots i)
