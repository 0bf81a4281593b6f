-- What settling performs: sweeps over the children of a world.
use Rattle.std.specs.Prelude.{◌≡◌, ℕ, zero, suc, ◌+◌, ◌<◌, ◌≤◌, ◌⊎◌, Bool, true, false, Some, List, [], ◌∷◌, ◌++◌, length, take, drop, replicate, slice_get}
use Rattle.model_stage.specs.Model.{Model}
use Rattle.wrapper_core.specs.declared.event.Event.TheVariants.{Own, Update}
use Rattle.wrapper_core.specs.Snapshot.{Snapshot, with_visited}
use Rattle.wrapper_core.specs.Events.{IsUpdatable, DoesOwn, Schedule}

-- the same moment with no mark of a visit: marks are how the sweeps remember, and no event reads or changes them
abbrev pub unmarked : {X : Type 0} → Snapshot X → Snapshot X
unmarked s = with_visited s (replicate (length s.visited) false)

-- an update of some child is enabled
pub record IsStale {X : Type 0} (model : X → Model) (s : Snapshot X) : Type 0 where
  pub child : ℕ
  pub enabled : IsUpdatable model s child

-- a visit of a child: it is updated where that is enabled, and then the own code is run
pub data IsVisit {X : Type 0} (model : X → Model) (i : ℕ) (s z : Snapshot X) : Type 0 where
  updates : IsUpdatable model s i → Schedule model (Update i ∷ Own ∷ []) s z → IsVisit model i s z
  passes : (IsUpdatable model s i → ⊥) → Schedule model (Own ∷ []) s z → IsVisit model i s z

-- so many numbers from the first on
abbrev pub numbers_from : ℕ → ℕ → List ℕ
numbers_from first zero = []
numbers_from first (suc n) = first ∷ numbers_from (suc first) n

-- a list without what stands at this place
abbrev pub without : ℕ → List ℕ → List ℕ
without place xs = take place xs ++ drop (place + 1) xs

-- A sweep that began at the moment s, with these children not yet visited, and the moment that it is at. At first none is visited;
-- the next visit is at the place, among the children not yet visited, that the order answers for the sweep's number and their count
pub data IsSweeping {X : Type 0} (model : X → Model) (answers : ℕ → ℕ → ℕ → Type 0) (sweep : ℕ) (s : Snapshot X) : List ℕ → Snapshot X → Type 0 where
  begins : IsSweeping model answers sweep s (numbers_from 0 (length s.children)) s
  goes : {left : List ℕ} {t z : Snapshot X} {place i : ℕ} → IsSweeping model answers sweep s left t → answers sweep (length left) place → slice_get left place ≡ Some i → IsVisit model i t z → IsSweeping model answers sweep s (without place left) z

-- a whole sweep: each child was visited
abbrev pub IsSweep : {X : Type 0} → (X → Model) → (ℕ → ℕ → ℕ → Type 0) → ℕ → Snapshot X → Snapshot X → Type 0
IsSweep model answers sweep s z = IsSweeping model answers sweep s [] z

-- earlier sweeps, and one more from a moment at which an update is enabled
pub record SweepsOnce {X : Type 0} (model : X → Model) (answers : ℕ → ℕ → ℕ → Type 0) (sweep : ℕ) (earlier : Snapshot X → Type 0) (z : Snapshot X) : Type 0 where
  pub before : Snapshot X
  pub earlier_sweeps : earlier before
  pub stale : IsStale model before
  pub sweep_is : IsSweep model answers sweep before z

-- so many sweeps, counted from 1
abbrev pub Sweeps : {X : Type 0} → (X → Model) → (ℕ → ℕ → ℕ → Type 0) → ℕ → Snapshot X → Snapshot X → Type 0
Sweeps model answers zero s z = z ≡ s
Sweeps model answers (suc n) s z = SweepsOnce model answers (suc n) (Sweeps model answers n s) z

-- settling by so many sweeps: the own code is run, and then there are sweeps while an update is enabled
pub record Settles {X : Type 0} (model : X → Model) (answers : ℕ → ℕ → ℕ → Type 0) (count : ℕ) (s z : Snapshot X) : Type 0 where
  pub first : Snapshot X
  pub own : DoesOwn s first
  pub sweeps : Sweeps model answers count first z
  pub none : IsStale model z → ⊥

-- the positions at which no mark is set, in order, where the first position is this one
abbrev pub unset_from : ℕ → List Bool → List ℕ
unset_from first [] = []
unset_from first (true ∷ marks) = unset_from (suc first) marks
unset_from first (false ∷ marks) = first ∷ unset_from (suc first) marks

-- the children that are not yet visited
abbrev pub unvisited : List Bool → List ℕ
unvisited marks = unset_from 0 marks

-- all children before the first are visited
pub record IsVisitedBelow (first : ℕ) (marks : List Bool) : Type 0 where
  pub within : first ≤ length marks
  pub all : (j : ℕ) → j < first → slice_get marks j ≡ Some true

-- the first child itself was visited, and one more is known to be
abbrev pub IsPast : ℕ → ℕ → ℕ → Type 0
IsPast first i next = ((i ≡ first) × (next ≡ first + 1)) ⊎ (next ≡ first)
