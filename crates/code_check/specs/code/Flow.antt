-- What is known of the slots that were taken, each after all that it reads.
use Rattle.std.specs.Prelude.{◌≡◌, ℕ, ◌+◌, ◌*◌, ◌<◌, ◌≤◌, ◌↔◌, ◌⊎◌, ◌&&◌, Bool, List, ◌∷◌, length, slice_index, slice_set, count_by, Contains, nat_le, nat_lt, if◌then◌else◌}
use Rattle.code_isa.specs.declared.machine.Machine.{Machine}
use Rattle.code_isa.specs.Slots.{first_register, first_kid_output, first_instruction, slot_count, IsInputSlot}
use Rattle.code_isa.specs.Dependence.{Reaches, IsPath, is_kid_slot}
use Rattle.code_check.specs.declared.flow.Regions.{Regions}
use Rattle.code_check.specs.declared.flow.Flow.{Flow}
use Rattle.code_check.specs.code.Sets.{IsIn, row_of, IsInSome}

-- the regions are those of the machine
pub record AreRegions (m : Machine) (regions : Regions) : Type 0 where
  pub inputs : regions.inputs ≡ first_register m
  pub outputs : regions.outputs ≡ first_kid_output m
  pub code : regions.code ≡ first_instruction m
  pub room : first_register m ≤ 64 * regions.words

-- the greatest number of children's output slots on a path that begins at the slot
pub record IsDepth (m : Machine) (slot depth : ℕ) : Type 0 where
  pub most : (path : List ℕ) → IsPath m (slot ∷ path) → count_by (is_kid_slot m) (slot ∷ path) ≤ depth
  pub deepest : List ℕ
  pub path : IsPath m (slot ∷ deepest)
  pub reached : count_by (is_kid_slot m) (slot ∷ deepest) ≡ depth

-- the set of a slot has the data inputs that it reaches
abbrev pub HasInputs : Machine → ℕ → List ℕ → Type 0
HasInputs m slot row = (p : ℕ) → IsInputSlot m p → IsIn row p ↔ Reaches m slot p

-- the set and the depth of a slot are right, and its set has a bit for each data input
pub record IsKnown (m : Machine) (rows : List (List ℕ)) (depths : List ℕ) (slot : ℕ) : Type 0 where
  pub room : first_register m ≤ 64 * length (row_of rows slot)
  pub inputs : HasInputs m slot (row_of rows slot)
  pub depth : IsDepth m slot (slice_index depths slot)

-- sets and depths of all slots, of which these are known; no depth is above their number
pub record AreKnown (m : Machine) (words : ℕ) (flow : Flow) (taken : List ℕ) : Type 0 where
  pub rows_each : length flow.inputs.items ≡ slot_count m
  pub depths_each : length flow.depths.items ≡ slot_count m
  pub sized : (slot : ℕ) → Contains taken slot → length (row_of flow.inputs.items slot) ≡ words
  pub known : (slot : ℕ) → Contains taken slot → IsKnown m flow.inputs.items flow.depths.items slot
  pub shallow : (slot : ℕ) → slice_index flow.depths.items slot ≤ length taken

-- all slots are known
pub record IsFlow (m : Machine) (flow : Flow) : Type 0 where
  pub rows_each : length flow.inputs.items ≡ slot_count m
  pub depths_each : length flow.depths.items ≡ slot_count m
  pub known : (slot : ℕ) → slot < slot_count m → IsKnown m flow.inputs.items flow.depths.items slot

-- no depth of these slots is above it, and where it is above 0 one is as great
pub record IsDeepest (depths slots : List ℕ) (depth : ℕ) : Type 0 where
  pub most : (slot : ℕ) → Contains slots slot → slice_index depths slot ≤ depth
  pub some : (depth ≡ 0) ⊎ ((slot : ℕ) × Contains slots slot × (slice_index depths slot ≡ depth))

-- whether a slot is in the region of the children's outputs
abbrev pub is_output_in : Regions → ℕ → Bool
is_output_in regions slot = nat_le regions.outputs slot && nat_lt slot regions.code

-- the set has what the slots that a slot reads have, and the slot itself where it is a data input
abbrev pub HasSet : Regions → List (List ℕ) → ℕ → List ℕ → List ℕ → Type 0
HasSet regions inputs slot reads row =
    (p : ℕ) → IsIn row p ↔ (IsInSome inputs reads p ⊎ ((p ≡ slot) × (slot < regions.inputs)))

-- the depth is the greatest of the slots that a slot reads, and one more where it is a child's output
pub record AddsDepth (regions : Regions) (depths : List ℕ) (slot : ℕ) (reads : List ℕ) (depth : ℕ) : Type 0 where
  pub below : ℕ
  pub deepest : IsDeepest depths reads below
  pub sum : depth ≡ (if is_output_in regions slot then 1 else 0) + below

-- a slot is taken: it has its set and its depth, and no other slot has changed
pub record Takes (regions : Regions) (old new : Flow) (slot : ℕ) (reads : List ℕ) : Type 0 where
  pub row : List ℕ
  pub rows : new.inputs.items ≡ slice_set old.inputs.items slot row
  pub sized : length row ≡ regions.words
  pub exact : HasSet regions old.inputs.items slot reads row
  pub depth : ℕ
  pub adds : AddsDepth regions old.depths.items slot reads depth
  pub depths : new.depths.items ≡ slice_set old.depths.items slot depth
