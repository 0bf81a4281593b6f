-- What is known of the registers that a clock triggers, and of what they sampled.
use Rattle.std.specs.Prelude.{◌≡◌, ◌↔◌, ℕ, Bool, true, false, Some, List, length, map, take, drop, slice_get, slice_index, Contains}
use Rattle.bit_ops.specs.Lists.{words, widths}
use Rattle.bit_ops.specs.declared.value.Bits.{Bits}
use Rattle.code_isa.specs.declared.machine.Reg.{Reg}
use Rattle.code_isa.specs.declared.machine.Machine.{Machine}
use Rattle.code_isa.specs.Faces.{clock_count}
use Rattle.code_isa.specs.Slots.{first_register}
use Rattle.code_isa.specs.Marks.{is_member}
use Rattle.code_isa.specs.Uses.{row_of}
use Rattle.code_isa.specs.Traces.{edge_occurs}
use Rattle.wrapper_core.specs.declared.block.Block.{Block}
use Rattle.wrapper_core.specs.declared.sampling.Sampling.{Sampling}

-- the register is there and has this clock
pub record IsClockedBy (regs : List Reg) (clock r : ℕ) : Type 0 where
  pub reg : Reg
  pub at : slice_get regs r ≡ Some reg
  pub by : reg.clock ≡ clock

-- the row of each clock lists the registers that have it
abbrev pub AreClocked : List Reg → List (List ℕ) → Type 0
AreClocked regs rows = (clock r : ℕ) → Contains (row_of rows clock) r ↔ IsClockedBy regs clock r

-- a register that is not due has its word
abbrev pub IsKept : List Bool → List ℕ → List ℕ → Type 0
IsKept due next registers = (r : ℕ) → is_member due r ≡ false → slice_index next r ≡ slice_index registers r

-- where the registers have these words, those that are not due have them in `next` too
pub record IsSampling (m : Machine) (s : Sampling) (registers : List ℕ) : Type 0 where
  pub rows_sized : length s.rows.items ≡ clock_count m.face
  pub rows : AreClocked m.regs s.rows.items
  pub wide : widths s.next.items ≡ map (λ r. r.width) m.regs
  pub due_sized : length s.due ≡ length m.regs
  pub kept : IsKept s.due (words s.next.items) registers

-- the registers in the row whose edge occurs between these levels are sampled and due, and no others change
pub record SamplesRow (row : List ℕ) (regs : List Reg) (slots : List Bits) (from to : Bool) (old new : List Bits) (before after : List Bool) : Type 0 where
  pub due_sized : length after ≡ length before
  pub wide : widths new ≡ widths old
  pub taken : (r : ℕ) (reg : Reg) → slice_get regs r ≡ Some reg → Contains row r → edge_occurs reg.falling from to ≡ true →
      (slice_index (words new) r ≡ slice_index (words slots) reg.next) × (is_member after r ≡ true)
  pub others : (r : ℕ) → ((reg : Reg) → slice_get regs r ≡ Some reg → Contains row r → edge_occurs reg.falling from to ≡ false) →
      (slice_index (words new) r ≡ slice_index (words old) r) × (is_member after r ≡ is_member before r)

-- the words of the registers that a block has
abbrev pub registers_of_block : Block → List ℕ
registers_of_block b = take (length b.code.value.regs) (drop (first_register b.code.value) (words b.given.items))

-- and those of the held inputs
abbrev pub held_of_block : Block → List ℕ
held_of_block b = take (first_register b.code.value) (words b.given.items)
