-- The value of an instruction from those of its operands.
use Rattle.std.specs.Prelude.{◌≡◌, ℕ, ◌+◌, List, [], ◌∷◌, map, slice_index, slice_get, Some, take, if◌then◌else◌}
use Rattle.bit_ops.specs.Rows.{value_of}
use Rattle.code_isa.specs.declared.machine.Instr.{Instr}
use Rattle.code_isa.specs.declared.machine.Machine.{Machine}
use Rattle.code_isa.specs.Operands.{is_constant}
use Rattle.code_isa.specs.Slots.{slot_widths, first_instruction, operand_slots}

-- the widths of an instruction's operands, where the slots have these widths; the operand of a constant is its value
abbrev pub operand_widths : List ℕ → Instr → List ℕ
operand_widths widths i =
    if is_constant i.op then i.width ∷ [] else map (λ slot. slice_index widths slot) (operand_slots i)

-- the operand in a slot: its width and its word
abbrev pub operand_at : List ℕ → List ℕ → ℕ → ℕ × ℕ
operand_at widths words slot = (slice_index widths slot, slice_index words slot)

-- the operands of an instruction
abbrev pub operands : List ℕ → List ℕ → Instr → List (ℕ × ℕ)
operands widths words i =
    if is_constant i.op then (i.width, i.value) ∷ []
    else map (operand_at widths words) (operand_slots i)

-- the word of an instruction's result
abbrev pub instr_value : List ℕ → List ℕ → Instr → ℕ
instr_value widths words i = value_of i.op i.width i.lo (operands widths words i)

-- the instruction with this number among the instructions has the value of its operands in its slot
abbrev pub HasValue : Machine → List ℕ → ℕ → Type 0
HasValue m words k =
    (i : Instr) → slice_get m.code k ≡ Some i →
    slice_index words (first_instruction m + k) ≡ instr_value (slot_widths m) words i

-- every instruction has its value in its slot
abbrev pub IsRun : Machine → List ℕ → Type 0
IsRun m words = (k : ℕ) → HasValue m words k

-- no slot but those of the instructions has changed
abbrev pub KeepsGiven : Machine → List ℕ → List ℕ → Type 0
KeepsGiven m old new = take (first_instruction m) new ≡ take (first_instruction m) old
