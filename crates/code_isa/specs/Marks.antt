-- A set of positions, in words of 64 bits with words of 64 bits above them.
use Rattle.std.specs.Prelude.{◌≡◌, ◌≢◌, ◌==◌, ℕ, zero, suc, ◌*◌, ◌/◌, ◌%◌, ◌^◌, ◌<◌, ◌≤◌, ◌↔◌, Bool, true, false, List, [], ◌∷◌, ◌++◌, length, slice_index, slice_index_or}
use Rattle.std.specs.Int.{bit_at}

-- the bit at a position of a list of words
abbrev pub bit_of : List ℕ → ℕ → ℕ
bit_of words k = bit_at (slice_index words (k / 64)) (k % 64)

-- the first n positions, each with whether it is in the set
abbrev pub members_of : List ℕ → ℕ → List Bool
members_of words zero = []
members_of words (suc n) = members_of words n ++ (bit_of words n == 1) ∷ []

-- whether a position is in a set
abbrev pub is_member : List Bool → ℕ → Bool
is_member members k = slice_index_or members k false

-- no position is in the set
abbrev pub HasNone : List Bool → Type 0
HasNone members = (k : ℕ) → is_member members k ≡ false

-- the least position in the set
pub record IsLeast (members : List Bool) (k : ℕ) : Type 0 where
  pub member : is_member members k ≡ true
  pub before : (i : ℕ) → i < k → is_member members i ≡ false

-- one bit is as given, and all others, and all other words, are as they were
pub record IsBitSetTo (old new : List ℕ) (k bit : ℕ) : Type 0 where
  pub size : length new ≡ length old
  pub here : bit_of new k ≡ bit
  pub others : (i : ℕ) → i ≢ k → bit_of new i ≡ bit_of old i
  pub words : (j : ℕ) → j ≢ k / 64 → slice_index new j ≡ slice_index old j

-- a bit of the upper words is set exactly where the lower word with its number is not empty
abbrev pub IsSummary : List ℕ → List ℕ → Type 0
IsSummary upper lower = (j : ℕ) → (bit_of upper j ≡ 1) ↔ (slice_index lower j ≢ 0)

-- the upper level is right but for what it says of this word, whose bit is set
pub record IsSummaryBut (upper lower : List ℕ) (word : ℕ) : Type 0 where
  pub here : bit_of upper word ≡ 1
  pub others : (j : ℕ) → j ≢ word → (bit_of upper j ≡ 1) ↔ (slice_index lower j ≢ 0)

-- the first word that is not empty
pub record IsFirstWord (words : List ℕ) (j : ℕ) : Type 0 where
  pub some : slice_index words j ≢ 0
  pub before : (i : ℕ) → i < j → slice_index words i ≡ 0

-- the lowest position that is set in the word with this number
pub record IsLowestIn (words : List ℕ) (j k : ℕ) : Type 0 where
  pub word : k / 64 ≡ j
  pub set : bit_of words k ≡ 1
  pub least : (i : ℕ) → i / 64 ≡ j → bit_of words i ≡ 1 → k ≤ i

-- the least position whose bit is set
pub record IsLeastBit (words : List ℕ) (k : ℕ) : Type 0 where
  pub set : bit_of words k ≡ 1
  pub least : (i : ℕ) → bit_of words i ≡ 1 → k ≤ i

-- no bit is set
abbrev pub IsEmpty : List ℕ → Type 0
IsEmpty words = (j : ℕ) → slice_index words j ≡ 0

-- the words of a set of positions below count: each of the two upper levels sums up the one below it
pub record IsLayered (count : ℕ) (leaves branches roots : List ℕ) : Type 0 where
  pub leaf_room : count ≤ 64 * length leaves
  pub branch_room : length leaves ≤ 64 * length branches
  pub root_room : length branches ≤ 64 * length roots
  pub few : (length leaves < 2 ^ 57) × (length branches < 2 ^ 57) × (length roots < 2 ^ 57)
  pub branches_sum : IsSummary branches leaves
  pub roots_sum : IsSummary roots branches
  pub none_past : (k : ℕ) → count ≤ k → bit_of leaves k ≡ 0
