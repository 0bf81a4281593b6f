-- paths, cycles and levellings of a dependence graph, given as what each node reads
use Rattle.std.specs.Prelude.{◌≡◌, ◌==◌, ◌<◌, ◌≤◌, ℕ, List, [], length, take, slice_index, slice_index_or, All, Contains, count_by, ◌^◌}

-- what a node reads, in order; nothing for a number that is no node
abbrev pub row_of : List (List ℕ) → ℕ → List ℕ
row_of rows a = slice_index_or rows a []

-- the node a reads the node b
abbrev pub Reads : List (List ℕ) → ℕ → ℕ → Type 0
Reads rows a b = Contains (row_of rows a) b

-- b is reached from a by one step or more, each to a node that is read
pub data Path (rows : List (List ℕ)) : ℕ → ℕ → Type 0 where
  step : {a b : ℕ} → Reads rows a b → Path rows a b
  longer : {a b c : ℕ} → Reads rows a b → Path rows b c → Path rows a c

-- a path leads from the node to itself
abbrev pub LiesOnCycle : List (List ℕ) → ℕ → Type 0
LiesOnCycle rows a = Path rows a a

-- the least of the nodes that lie on a cycle
pub record IsLeastOnCycle (rows : List (List ℕ)) (a : ℕ) : Type 0 where
  pub on_cycle : LiesOnCycle rows a
  pub least : (b : ℕ) → LiesOnCycle rows b → a ≤ b

-- every node stands once in the list, nothing else does, and each stands after all that it reads
pub record IsLevelling (rows : List (List ℕ)) (order : List ℕ) : Type 0 where
  pub only_nodes : All (λ a. a < length rows) order
  pub each_once : (a : ℕ) → a < length rows → count_by (λ b. b == a) order ≡ 1
  pub after_reads : (k : ℕ) → k < length order → (b : ℕ) → Reads rows (slice_index order k) b →
      Contains (take k order) b

-- the rows can be numbered by a u32
abbrev pub HasFewRows : List (List ℕ) → Type 0
HasFewRows rows = length rows < 2 ^ 32

-- every entry is the number of a row
abbrev pub ReadsOnlyNodes : List (List ℕ) → Type 0
ReadsOnlyNodes rows = All (λ row. All (λ b. b < length rows) row) rows
