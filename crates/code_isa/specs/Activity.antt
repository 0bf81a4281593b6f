-- Evaluation of what changed: which instructions are left, and how many had to be done.
use Rattle.std.specs.Prelude.{◌≡◌, ◌≢◌, ◌==◌, ℕ, zero, suc, ◌+◌, ◌↔◌, ◌⊎◌, Bool, true, false, not, ◌||◌, List, length, slice_index, Contains, if◌then◌else◌}
use Rattle.std.specs.List.{list_any}
use Rattle.code_isa.specs.declared.machine.Machine.{Machine}
use Rattle.code_isa.specs.Slots.{first_instruction}
use Rattle.code_isa.specs.Values.{HasValue}
use Rattle.code_isa.specs.Marks.{is_member}
use Rattle.code_isa.specs.Uses.{operands_at}

-- every instruction that is not marked has its value
abbrev pub HaveValuesBut : Machine → List Bool → List ℕ → Type 0
HaveValuesBut m marks words = (k : ℕ) → is_member marks k ≡ false → HasValue m words k

-- the readers of a slot are marked besides those that were
pub record MarksReaders (m : Machine) (slot : ℕ) (old new : List Bool) : Type 0 where
  pub sized : length new ≡ length old
  pub exact : (k : ℕ) → (is_member new k ≡ true) ↔ ((is_member old k ≡ true) ⊎ Contains (operands_at m k) slot)

-- whether the word of a slot is another than it was
abbrev pub differs : List ℕ → List ℕ → ℕ → Bool
differs old new slot = not (slice_index old slot == slice_index new slot)

-- whether an instruction has to be done: it was marked, or an operand's word is another than it was
abbrev pub is_due : Machine → List Bool → List ℕ → List ℕ → ℕ → Bool
is_due m marks old new k = is_member marks k || list_any (differs old new) (operands_at m k)

-- how many of the numbers below n pass
abbrev pub count_below : (ℕ → Bool) → ℕ → ℕ
count_below passes zero = 0
count_below passes (suc n) = count_below passes n + (if passes n then 1 else 0)

-- how many instructions had to be done
abbrev pub due_count : Machine → List Bool → List ℕ → List ℕ → ℕ
due_count m marks old new = count_below (is_due m marks old new) (length m.code)

-- one instruction is done: it has its value, no other slot has changed, and where its own word has changed, the
-- readers of its slot are marked besides those that were
pub record RunsOne (m : Machine) (k : ℕ) (old new : List ℕ) (before after : List Bool) : Type 0 where
  pub sized : length after ≡ length before
  pub others : (slot : ℕ) → slot ≢ first_instruction m + k → slice_index new slot ≡ slice_index old slot
  pub value : HasValue m new k
  pub readers : (j : ℕ) → (is_member after j ≡ true) ↔
      ((is_member before j ≡ true)
      ⊎ (Contains (operands_at m j) (first_instruction m + k)
      × (slice_index new (first_instruction m + k) ≢ slice_index old (first_instruction m + k))))

-- the readers in a row are marked besides those that were; the instruction with the number 0 has the slot `first`
pub record MarksRow (first : ℕ) (row : List ℕ) (old new : List Bool) : Type 0 where
  pub sized : length new ≡ length old
  pub exact : (k : ℕ) → (is_member new k ≡ true) ↔ ((is_member old k ≡ true) ⊎ Contains row (first + k))
