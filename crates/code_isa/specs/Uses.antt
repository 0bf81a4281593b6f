-- Which instructions read a slot.
use Rattle.std.specs.Prelude.{◌≡◌, ℕ, ◌+◌, ◌<◌, ◌≤◌, ◌↔◌, ◌⊎◌, List, [], length, map, slice_index_or, AllPairs, Contains}
use Rattle.code_isa.specs.declared.machine.Machine.{Machine}
use Rattle.code_isa.specs.Slots.{slot_count, first_instruction, operand_slots}

-- the slots that a machine's instruction with this number among the instructions has as operands
abbrev pub operands_at : Machine → ℕ → List ℕ
operands_at m k = slice_index_or (map operand_slots m.code) k []

-- the slot is that of an instruction, which has this slot as an operand
abbrev pub IsReader : Machine → ℕ → ℕ → Type 0
IsReader m slot reader = (k : ℕ) × (reader ≡ first_instruction m + k) × Contains (operands_at m k) slot

-- the row of a slot
abbrev pub row_of : List (List ℕ) → ℕ → List ℕ
row_of rows slot = slice_index_or rows slot []

-- each number is below all later ones
abbrev pub Rises : List ℕ → Type 0
Rises row = AllPairs (λ p q. p < q) row

-- a row for each slot, which lists the slots of all instructions that have it as an operand, and rises
pub record AreUsesOf (m : Machine) (rows : List (List ℕ)) : Type 0 where
  pub sized : length rows ≡ slot_count m
  pub rise : (slot : ℕ) → Rises (row_of rows slot)
  pub exact : (slot reader : ℕ) → Contains (row_of rows slot) reader ↔ IsReader m slot reader

-- no number of a row is above this one
abbrev pub AreUpTo : List (List ℕ) → ℕ → Type 0
AreUpTo rows top = (slot reader : ℕ) → Contains (row_of rows slot) reader → reader ≤ top

-- to the rows of these slots, and to no other, a number is added
pub record AddsReader (old new : List (List ℕ)) (slots : List ℕ) (reader : ℕ) : Type 0 where
  pub sized : length new ≡ length old
  pub rise : (slot : ℕ) → Rises (row_of new slot)
  pub exact : (slot r : ℕ) →
      Contains (row_of new slot) r ↔ (Contains (row_of old slot) r ⊎ ((r ≡ reader) × Contains slots slot))

-- the rows of all slots, which list the first instructions that read them
pub record AreUsesUpTo (m : Machine) (rows : List (List ℕ)) (count : ℕ) : Type 0 where
  pub sized : length rows ≡ slot_count m
  pub rise : (slot : ℕ) → Rises (row_of rows slot)
  pub exact : (slot reader : ℕ) → Contains (row_of rows slot) reader ↔
      ((k : ℕ) × (k < count) × (reader ≡ first_instruction m + k) × Contains (operands_at m k) slot)
