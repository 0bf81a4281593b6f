-- what the search for cycles knows between two of its steps
use Rattle.std.specs.Prelude.{◌≡◌, ◌==◌, ◌+◌, ◌<◌, ◌≤◌, ℕ, List, [], ◌∷◌, ◌++◌, length, take, map, min, slice_index, slice_index_or, slice_set, Contains, count_by, Option, None, Some, ◌⊎◌}
use Rattle.levelise.specs.Graph.{row_of, Reads, Path, LiesOnCycle}
use Rattle.levelise.specs.declared.search.Mark.{Mark}
use Rattle.levelise.specs.declared.search.Mark.TheVariants.{New, Open, Done}
use Rattle.levelise.specs.declared.search.Edge.{Edge}
use Rattle.levelise.specs.declared.search.Search.{Search}

-- the mark of a node
abbrev pub mark_of : List Mark → ℕ → Mark
mark_of marks a = slice_index_or marks a New

-- the edges from a place of the path to what its node reads
abbrev pub edges_from : ℕ → List ℕ → List Edge
edges_from place row = map (λ b. record { from = place; to = b }) row

-- the least node on a cycle that is known so far is at most this one
abbrev pub IsNoted : Option ℕ → ℕ → Type 0
IsNoted least a = (n : ℕ) × (least ≡ Some n) × (n ≤ a)

-- the least node that is known, once this one is known too
abbrev pub noted : Option ℕ → ℕ → Option ℕ
noted None a = Some a
noted (Some n) a = Some (min n a)

-- each number is above the one before it
abbrev pub Rises : List ℕ → Type 0
Rises starts = (i j : ℕ) → i < j → j < length starts → slice_index starts i < slice_index starts j

-- the edges stand in the order of the places that they leave
abbrev pub AreByPlace : List Edge → Type 0
AreByPlace pending =
    (i j : ℕ) (d : Edge) → i < j → j < length pending →
    (slice_index_or pending i d).from ≤ (slice_index_or pending j d).from

-- the edge from a place to b is still to be followed, or leads to a node that is done, or to one on the path:
-- in the part of the place or a later part, and b is noted unless it stands at a later place
abbrev pub IsSeen : List Mark → List ℕ → List Edge → Option ℕ → ℕ → ℕ → Type 0
IsSeen marks starts pending least place b =
    Contains pending (record { from = place; to = b })
    ⊎ ((mark_of marks b ≡ Done)
    ⊎ ((q : ℕ) × (mark_of marks b ≡ Open q) × ((s : ℕ) → Contains starts s → s ≤ place → s ≤ q)
    × ((place < q) ⊎ IsNoted least b)))

-- what holds between two steps: of the marks, the path and the starts of its parts, the edges to follow, the
-- nodes that are done, and the least node on a cycle. Each place of the path leads to each later one, and back to
-- an earlier one where no part starts between; what a done node reads is done; and without a cycle the done nodes
-- are levelled
pub record IsConsistent (rows : List (List ℕ)) (marks : List Mark) (path starts : List ℕ) (pending : List Edge) (done : List ℕ) (least : Option ℕ) : Type 0 where
  pub sized : length marks ≡ length rows
  pub placed : (p : ℕ) → p < length path → mark_of marks (slice_index path p) ≡ Open p
  pub open_stands : (a p : ℕ) → mark_of marks a ≡ Open p → (p < length path) × (slice_index path p ≡ a)
  pub done_once : (a : ℕ) → mark_of marks a ≡ Done → count_by (λ b. b == a) done ≡ 1
  pub only_done : (a : ℕ) → (mark_of marks a ≡ Done → ⊥) → count_by (λ b. b == a) done ≡ 0
  pub starts_rise : Rises starts
  pub starts_inside : (s : ℕ) → Contains starts s → s < length path
  pub starts_at_zero : 0 < length path → Contains starts 0
  pub edges : (e : Edge) → Contains pending e → (e.from < length path) × Reads rows (slice_index path e.from) e.to
  pub by_place : AreByPlace pending
  pub forth : (p q : ℕ) → p < q → q < length path → Path rows (slice_index path p) (slice_index path q)
  pub back : (p q : ℕ) → p < q → q < length path → ((s : ℕ) → Contains starts s → p < s → s ≤ q → ⊥) →
      Path rows (slice_index path q) (slice_index path p)
  pub seen : (p b : ℕ) → p < length path → Reads rows (slice_index path p) b → IsSeen marks starts pending least p b
  pub closed : (a b : ℕ) → mark_of marks a ≡ Done → Reads rows a b → mark_of marks b ≡ Done
  pub least_found : (n : ℕ) → least ≡ Some n → LiesOnCycle rows n
  pub least_noted : (a : ℕ) → mark_of marks a ≡ Done → LiesOnCycle rows a → IsNoted least a
  pub levelled : least ≡ None → (k : ℕ) → k < length done → (b : ℕ) → Reads rows (slice_index done k) b →
      Contains (take k done) b

-- the same of a search
abbrev pub IsSound : List (List ℕ) → Search → Type 0
IsSound rows s = IsConsistent rows s.marks.items s.path.items s.starts.items s.pending.items s.done.items s.least

-- a part is whole: what was noted still is, the nodes of a part of two or more are noted, and nothing else
pub record NotesPart (old : Option ℕ) (part : List ℕ) (new : Option ℕ) : Type 0 where
  pub keeps : (a : ℕ) → IsNoted old a → IsNoted new a
  pub whole : 1 < length part → (a : ℕ) → Contains part a → IsNoted new a
  pub one_of : (n : ℕ) → new ≡ Some n → (old ≡ Some n) ⊎ ((1 < length part) × Contains part n)

-- this is the last of the list
abbrev pub IsLast : {X : Type 0} → List X → X → Type 0
IsLast {X} xs x = (front : List X) × (xs ≡ front ++ x ∷ [])

-- the node is put on the path, as a part of its own, with its edges
pub record Opens (rows : List (List ℕ)) (old new : Search) (node : ℕ) : Type 0 where
  pub marks : new.marks.items ≡ slice_set old.marks.items node (Open (length old.path.items))
  pub path : new.path.items ≡ old.path.items ++ node ∷ []
  pub starts : new.starts.items ≡ old.starts.items ++ length old.path.items ∷ []
  pub pending : new.pending.items ≡ old.pending.items ++ edges_from (length old.path.items) (row_of rows node)
  pub done : new.done.items ≡ old.done.items
  pub least : new.least ≡ old.least

-- a node that was met stays met
abbrev pub KeepsMet : List Mark → List Mark → Type 0
KeepsMet old new = (a : ℕ) → mark_of new a ≡ New → mark_of old a ≡ New

-- what meeting a node costs: its edges, and its part
abbrev pub cost_of : Mark → List ℕ → ℕ
cost_of New row = 2 + length row
cost_of (Open p) row = 0
cost_of Done row = 0

-- what the nodes that are not met yet cost
abbrev pub cost_to_come : List Mark → List (List ℕ) → ℕ
cost_to_come [] rows = 0
cost_to_come (m ∷ marks) [] = 0
cost_to_come (m ∷ marks) (row ∷ rows) = cost_of m row + cost_to_come marks rows

-- how many steps are left at most
abbrev pub steps_left : List (List ℕ) → Search → ℕ
steps_left rows s = cost_to_come s.marks.items rows + (length s.pending.items + length s.starts.items)
