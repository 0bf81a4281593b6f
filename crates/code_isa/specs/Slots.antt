-- The slots of a machine, numbered from 0: the data inputs, the registers, the children's outputs child by child, and then
-- one for each instruction.
use Rattle.std.specs.Prelude.{ℕ, zero, suc, ◌+◌, ◌≤◌, ◌<◌, List, [], ◌∷◌, ◌++◌, length, map, slice_index}
use Rattle.std.specs.List.{flat_map}
use Rattle.code_isa.specs.declared.machine.Instr.{Instr}
use Rattle.code_isa.specs.declared.machine.Machine.{Machine}
use Rattle.code_isa.specs.Faces.{input_widths, output_widths}
use Rattle.code_isa.specs.Operands.{operand_count}

-- the widths of the slots before the instructions' own
abbrev pub given_widths : Machine → List ℕ
given_widths m = input_widths m.face ++ map (λ r. r.width) m.regs ++ flat_map (λ kid. output_widths kid.face) m.kids

-- the widths of all slots
abbrev pub slot_widths : Machine → List ℕ
slot_widths m = given_widths m ++ map (λ i. i.width) m.code

-- how many slots there are
abbrev pub slot_count : Machine → ℕ
slot_count m = length (slot_widths m)

-- the first of the registers' slots, of the children's output slots, and of the instructions' slots
abbrev pub first_register : Machine → ℕ
first_register m = length (input_widths m.face)

abbrev pub first_kid_output : Machine → ℕ
first_kid_output m = first_register m + length m.regs

abbrev pub first_instruction : Machine → ℕ
first_instruction m = length (given_widths m)

-- the width of a slot
abbrev pub width_at : Machine → ℕ → ℕ
width_at m slot = slice_index (slot_widths m) slot

-- a slot of a data input, and one of a child's output
abbrev pub IsInputSlot : Machine → ℕ → Type 0
IsInputSlot m slot = slot < first_register m

abbrev pub IsKidSlot : Machine → ℕ → Type 0
IsKidSlot m slot = (first_kid_output m ≤ slot) × (slot < first_instruction m)

-- the slots of an instruction's operands, in the order in which its operation takes them, where it takes this many: a
-- choice takes its condition first
abbrev pub taken_slots : ℕ → Instr → List ℕ
taken_slots zero i = []
taken_slots (suc zero) i = i.a ∷ []
taken_slots (suc (suc zero)) i = i.a ∷ i.b ∷ []
taken_slots (suc (suc (suc n))) i = i.c ∷ i.a ∷ i.b ∷ []

abbrev pub operand_slots : Instr → List ℕ
operand_slots i = taken_slots (operand_count i.op) i
