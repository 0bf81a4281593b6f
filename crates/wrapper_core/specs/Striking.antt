-- A step of the clocks, from a quiescent moment on.
use Rattle.std.specs.Prelude.{◌≡◌, ℕ, Bool, false, Option, Some, List, map, slice_get}
use Rattle.code_isa.specs.Tree.{held_of}
use Rattle.code_isa.specs.Traces.{TakesEdges}
use Rattle.model_stage.specs.Model.{Model}
use Rattle.wrapper_core.specs.declared.wrapped.Wrapped.{Wrapped}
use Rattle.wrapper_core.specs.Snapshot.{Striking, Snapshot, tree_in, state_in, with_levels}
use Rattle.wrapper_core.specs.Events.{IsQuiescent}

-- a strike is under way
pub record IsStriking {X : Type 0} (s : Snapshot X) : Type 0 where
  pub before : List Bool
  pub sampled : Option (List ℕ)
  pub striking : s.phase ≡ Striking before sampled

-- no slot, held input, register or shown output is another
pub record ShowsSame {X : Type 0} (model : X → Model) (s z : Snapshot X) : Type 0 where
  pub code : z.code ≡ s.code
  pub slots : z.slots ≡ s.slots
  pub held : z.held ≡ s.held
  pub registers : z.registers ≡ s.registers
  pub children_held : map (λ c. held_of (model c.child).state) z.children ≡ map (λ c. held_of (model c.child).state) s.children
  pub wrappers : map (λ (c : Wrapped X). c.wrapper) z.children ≡ map (λ (c : Wrapped X). c.wrapper) s.children

-- all registers of the tree have taken the edges between the levels at the first moment and these, from the state at the first
abbrev pub TakesAllEdges : {X : Type 0} → (X → Model) → List Bool → Snapshot X → Snapshot X → Type 0
TakesAllEdges model levels s z = TakesEdges (tree_in model s) s.levels levels (state_in model s) (state_in model z)

-- a strike with these levels begins at a quiescent moment, at which no child is struck
pub record BeginsStrike {X : Type 0} (model : X → Model) (levels : List Bool) (start s : Snapshot X) : Type 0 where
  pub quiescent : IsQuiescent model start
  pub unstruck : (i : ℕ) (c : Wrapped X) → slice_get start.children i ≡ Some c → c.struck ≡ false
  pub begins : s ≡ with_levels start levels
