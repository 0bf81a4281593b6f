-- What makes a machine a checked one: six conditions, each the absence of one fault.
use Rattle.std.specs.Prelude.{◌≡◌, ◌≢◌, ℕ, ◌+◌, ◌<◌, ◌≤◌, List, [], map, slice_get, slice_index_or, Some, All, AllPairs, Contains, count_by}
use Rattle.sv_base.specs.Classes.{is_clock}
use Rattle.sv_base.specs.declared.face.Face.{Face}
use Rattle.sv_base.specs.declared.face.Summary.{Summary}
use Rattle.bit_ops.specs.Width.{WidthsFit}
use Rattle.code_isa.specs.declared.machine.Instr.{Instr}
use Rattle.code_isa.specs.declared.machine.Machine.{Machine}
use Rattle.code_isa.specs.Faces.{ports_of, input_count, clock_count, input_widths, output_widths}
use Rattle.code_isa.specs.Slots.{slot_widths, slot_count, width_at, first_instruction, operand_slots, IsInputSlot, IsKidSlot}
use Rattle.code_isa.specs.Values.{operand_widths}
use Rattle.code_isa.specs.Dependence.{DependsOn, Reaches, IsPath, is_kid_slot}

-- no two ports have one name, a clock has one bit, and each row of the summary rises strictly and names data inputs
pub record IsFaceShape (face : Face) (summary : Summary) : Type 0 where
  pub names_differ : AllPairs (λ p q. p.name ≢ q.name) face.ports
  pub clocks_narrow : All (λ p. p.width ≡ 1) (ports_of is_clock face)
  pub rows_rise : All (λ row. AllPairs (λ p q. p < q) row) summary.rows
  pub rows_within : All (λ row. All (λ p. p < input_count face) row) summary.rows

-- the machine's face and its children's have that shape, and each clock of a register and of a child is one of the
-- machine's
pub record IsPortShaped (m : Machine) : Type 0 where
  pub own : IsFaceShape m.face m.summary
  pub kids : All (λ kid. IsFaceShape kid.face kid.summary) m.kids
  pub register_clocks : All (λ r. r.clock < clock_count m.face) m.regs
  pub kid_clocks : All (λ kid. All (λ c. c < clock_count m.face) kid.clocks) m.kids

-- each operand is below its instruction's own slot, and each next, input and output slot is there
pub record IsSlotOrdered (m : Machine) : Type 0 where
  pub operands : (k : ℕ) (i : Instr) → slice_get m.code k ≡ Some i →
      All (λ slot. slot < first_instruction m + k) (operand_slots i)
  pub nexts : All (λ r. r.next < slot_count m) m.regs
  pub ins : All (λ kid. All (λ slot. slot < slot_count m) kid.ins) m.kids
  pub outs : All (λ slot. slot < slot_count m) m.outs

-- each operation's condition on widths holds, and each next, output and child's input slot has the width of its register,
-- port and child's port
pub record IsSlotWide (m : Machine) : Type 0 where
  pub operations : All (λ i. WidthsFit i.op i.width i.lo (operand_widths (slot_widths m) i)) m.code
  pub nexts : All (λ r. width_at m r.next ≡ r.width) m.regs
  pub outs : map (width_at m) m.outs ≡ output_widths m.face
  pub ins : All (λ kid. map (width_at m) kid.ins ≡ input_widths kid.face) m.kids

-- no output slot of a child depends on itself
abbrev pub IsAcyclic : Machine → Type 0
IsAcyclic m = (slot : ℕ) → IsKidSlot m slot → DependsOn m slot slot → ⊥

-- the summary's row of an output
abbrev pub row_at : Summary → ℕ → List ℕ
row_at summary k = slice_index_or summary.rows k []

-- each data input that an output's slot reaches stands in the output's row; the slot of a data input is its position
abbrev pub IsSummarised : Machine → Type 0
IsSummarised m =
    (k slot input : ℕ) → slice_get m.outs k ≡ Some slot → IsInputSlot m input → Reaches m slot input →
    Contains (row_at m.summary k) input

-- no path of dependence has more children's output slots than the chain says
abbrev pub IsChained : Machine → Type 0
IsChained m = (path : List ℕ) → IsPath m path → count_by (is_kid_slot m) path ≤ m.chain

-- a checked machine
pub record IsChecked (m : Machine) : Type 0 where
  pub port_shape : IsPortShaped m
  pub slot_order : IsSlotOrdered m
  pub slot_width : IsSlotWide m
  pub acyclic : IsAcyclic m
  pub summarised : IsSummarised m
  pub chained : IsChained m
