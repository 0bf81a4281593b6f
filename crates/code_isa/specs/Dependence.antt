-- Which slots depend on which, in one moment.
use Rattle.std.specs.Prelude.{ℕ, Bool, ◌&&◌, nat_le, nat_lt, List, [], ◌∷◌, ◌++◌, map, slice_index, slice_index_or, Contains, ⊤}
use Rattle.std.specs.List.{flat_map}
use Rattle.std.proofs.Common.{replicate}
use Rattle.code_isa.specs.declared.machine.Kid.{Kid}
use Rattle.code_isa.specs.declared.machine.Machine.{Machine}
use Rattle.code_isa.specs.Slots.{first_kid_output, first_instruction, operand_slots}

-- what each output of a child reads: the slots that the inputs in its summary's row are joined to
abbrev pub kid_reads : Kid → List (List ℕ)
kid_reads kid = map (λ row. map (λ p. slice_index kid.ins p) row) kid.summary.rows

-- what each slot reads: a data input and a register nothing, a child's output as above, an instruction its operands
abbrev pub reads_of : Machine → List (List ℕ)
reads_of m = replicate (first_kid_output m) [] ++ flat_map kid_reads m.kids ++ map operand_slots m.code

-- the slot a reads the slot b
abbrev pub Reads : Machine → ℕ → ℕ → Type 0
Reads m a b = Contains (slice_index_or (reads_of m) a []) b

-- a slot reaches itself, and all that is reached from a slot that it reads
pub data Reaches (m : Machine) : ℕ → ℕ → Type 0 where
  here : {a : ℕ} → Reaches m a a
  along : {a b c : ℕ} → Reads m a b → Reaches m b c → Reaches m a c

-- the slot a depends on the slot c: by one step or more, each to a slot that is read
pub record DependsOn (m : Machine) (a c : ℕ) : Type 0 where
  pub by : ℕ
  pub reads : Reads m a by
  pub reaches : Reaches m by c

-- each slot of the list but the last reads the one after it
abbrev pub IsPath : Machine → List ℕ → Type 0
IsPath m [] = ⊤
IsPath m (a ∷ []) = ⊤
IsPath m (a ∷ b ∷ rest) = Reads m a b × IsPath m (b ∷ rest)

-- whether a slot is an output of a child
abbrev pub is_kid_slot : Machine → ℕ → Bool
is_kid_slot m slot = nat_le (first_kid_output m) slot && nat_lt slot (first_instruction m)
