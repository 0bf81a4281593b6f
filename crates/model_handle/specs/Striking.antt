-- A step of the clocks in a world, in its parts.
use Rattle.std.specs.Prelude.{◌≡◌, ℕ, ◌+◌, ◌<◌, ◌≤◌, Bool, true, false, Some, List, length, slice_get}
use Rattle.model_stage.specs.Model.{Model}
use Rattle.wrapper_core.specs.declared.event.Event.{Event}
use Rattle.wrapper_core.specs.declared.wrapped.Wrapped.{Wrapped}
use Rattle.wrapper_core.specs.Snapshot.{Striking, Snapshot, with_children}
use Rattle.wrapper_core.specs.Events.{Schedule}

-- a strike is under way in which the registers are sampled and no child is struck
pub record IsSampled {X : Type 0} (s : Snapshot X) : Type 0 where
  pub before : List Bool
  pub sampled : List ℕ
  pub striking : s.phase ≡ Striking before (Some sampled)
  pub unstruck : (i : ℕ) (c : Wrapped X) → slice_get s.children i ≡ Some c → c.struck ≡ false

-- a child after one strike at most: it has its tree
pub record IsStruckOnce {X : Type 0} (model : X → Model) (c d : Wrapped X) : Type 0 where
  pub tree : (model d.child).tree ≡ (model c.child).tree
  pub room : (model c.child).room ≤ (model d.child).room + 1

-- some events, each enabled where it stands, lead from the first moment to the second
pub record IsReached {X : Type 0} (model : X → Model) (s z : Snapshot X) : Type 0 where
  pub events : List Event
  pub schedule : Schedule model events s z

-- the children at the first positions are struck, and nothing else has changed
pub record StrikesFirst {X : Type 0} (model : X → Model) (count : ℕ) (s z : Snapshot X) : Type 0 where
  pub reached : IsReached model s z
  pub rest : z ≡ with_children s z.children
  pub each : length z.children ≡ length s.children
  pub done : (i : ℕ) (c d : Wrapped X) → i < count → slice_get s.children i ≡ Some c → slice_get z.children i ≡ Some d → (d.struck ≡ true) × IsStruckOnce model c d
  pub left : (i : ℕ) (c d : Wrapped X) → count ≤ i → slice_get s.children i ≡ Some c → slice_get z.children i ≡ Some d → d ≡ c

-- a whole step to these levels: the machine and the held inputs are as they were, and each child was struck once
pub record StepsClocks {X : Type 0} (model : X → Model) (levels : List Bool) (s z : Snapshot X) : Type 0 where
  pub code : z.code ≡ s.code
  pub held : z.held ≡ s.held
  pub levels_are : z.levels ≡ levels
  pub each : length z.children ≡ length s.children
  pub children : (i : ℕ) (c d : Wrapped X) → slice_get s.children i ≡ Some c → slice_get z.children i ≡ Some d → IsStruckOnce model c d
