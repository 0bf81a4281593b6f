-- Sets of data inputs as bits of rows of words.
use Rattle.std.specs.Prelude.{◌≡◌, ℕ, ◌↔◌, ◌⊎◌, List, [], slice_index_or, Contains}
use Rattle.code_isa.specs.Marks.{bit_of}

-- the position is in the set
abbrev pub IsIn : List ℕ → ℕ → Type 0
IsIn row p = bit_of row p ≡ 1

-- the set of a slot
abbrev pub row_of : List (List ℕ) → ℕ → List ℕ
row_of rows slot = slice_index_or rows slot []

-- the position is in the set of one of these slots
abbrev pub IsInSome : List (List ℕ) → List ℕ → ℕ → Type 0
IsInSome rows slots p = (slot : ℕ) × Contains slots slot × IsIn (row_of rows slot) p
