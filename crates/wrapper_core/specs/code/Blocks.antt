-- What a block keeps of the own code of its unit.
use Rattle.std.specs.Prelude.{◌≡◌, ℕ, ◌+◌, ◌<◌, Bool, true, false, List, ◌++◌, length, take, drop, slice_index}
use Rattle.bit_ops.specs.Lists.{words, widths}
use Rattle.code_isa.specs.Slots.{slot_widths, given_widths, first_instruction}
use Rattle.code_isa.specs.Marks.{is_member}
use Rattle.code_isa.specs.Uses.{AreUsesOf}
use Rattle.code_isa.specs.Activity.{HaveValuesBut}
use Rattle.wrapper_core.specs.declared.block.Block.{Block}

-- the set has all positions below count, and no room for others
pub record HasAll (marks : List Bool) (count : ℕ) : Type 0 where
  pub sized : length marks ≡ count
  pub all : (k : ℕ) → k < count → is_member marks k ≡ true

-- each slot below n that is not waiting to be copied holds what it is given
abbrev pub IsCopied : ℕ → List Bool → List ℕ → List ℕ → Type 0
IsCopied n waiting slots given = (s : ℕ) → s < n → is_member waiting s ≡ false → slice_index slots s ≡ slice_index given s

-- each slot that is neither marked nor waiting to be copied has its value
pub record IsBlock (b : Block) : Type 0 where
  pub uses : AreUsesOf b.code.value b.uses.rows
  pub given_wide : widths b.given.items ≡ given_widths b.code.value
  pub shape : widths b.slots.items ≡ slot_widths b.code.value
  pub waiting_sized : length b.waiting ≡ first_instruction b.code.value
  pub marks_sized : length b.marks ≡ length b.code.value.code
  pub copied : IsCopied (first_instruction b.code.value) b.waiting (words b.slots.items) (words b.given.items)
  pub settled : HaveValuesBut b.code.value b.marks (words b.slots.items)

-- a list with these words from a position on
abbrev pub placed : List ℕ → ℕ → List ℕ → List ℕ
placed given first values = take first given ++ values ++ drop (first + length values) given

-- the block has the same code and the same slots
pub record Keeps (old new : Block) : Type 0 where
  pub code : new.code ≡ old.code
  pub slots : new.slots ≡ old.slots
