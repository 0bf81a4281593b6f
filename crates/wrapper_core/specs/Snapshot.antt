-- A world at one moment: what its events speak of.
use Rattle.std.specs.Prelude.{ℕ, Bool, Option, None, List, [], ◌∷◌, map}
use Rattle.std.specs.List.{flat_map}
use Rattle.bit_ops.specs.Lists.{words}
use Rattle.code_isa.specs.declared.machine.Machine.{Machine}
use Rattle.code_isa.specs.Tree.{Tree, node, forest_of, State, state, States, no_state, state_and}
use Rattle.model_stage.specs.Model.{Model}
use Rattle.sequence_select.specs.Shown.{shown}
use Rattle.wrapper_core.specs.declared.wrapped.Wrapped.{Wrapped}

-- calm; or striking: the levels of the clocks before, and the words that the registers will have, once they are sampled
pub data Phase : Type 0 where
  Calm : Phase
  Striking : (before : List Bool) (sampled : Option (List ℕ)) → Phase

-- A world at one moment: its machine, the words of the held inputs, of the registers and of the slots, the levels of the clocks, its
-- phase, its children behind their wrappers, and the marks of visits
pub record Snapshot (X : Type 0) : Type 0 where
  pub code : Machine
  pub held : List ℕ
  pub registers : List ℕ
  pub slots : List ℕ
  pub levels : List Bool
  pub phase : Phase
  pub children : List (Wrapped X)
  pub visited : List Bool

-- the words of the outputs that the wrappers show, child by child
abbrev pub all_shown : {X : Type 0} → List (Wrapped X) → List ℕ
all_shown children = flat_map (λ c. words (shown c.wrapper)) children

-- the states of a list
abbrev pub states_of : List State → States
states_of [] = no_state
states_of (s ∷ states) = state_and s (states_of states)

-- the tree of the world's machine and its children's trees, and the state that it is in
abbrev pub tree_in : {X : Type 0} → (X → Model) → Snapshot X → Tree
tree_in model s = node s.code (forest_of (map (λ c. (model c.child).tree) s.children))

abbrev pub state_in : {X : Type 0} → (X → Model) → Snapshot X → State
state_in model s = state s.held s.registers s.slots (states_of (map (λ c. (model c.child).state) s.children))

-- the same moment but for the slots, the held inputs, the phase, the children, or the marks
abbrev pub with_slots : {X : Type 0} → Snapshot X → List ℕ → Snapshot X
with_slots s slots = record { code = s.code; held = s.held; registers = s.registers; slots = slots; levels = s.levels; phase = s.phase; children = s.children; visited = s.visited }

abbrev pub with_held : {X : Type 0} → Snapshot X → List ℕ → Snapshot X
with_held s held = record { code = s.code; held = held; registers = s.registers; slots = s.slots; levels = s.levels; phase = s.phase; children = s.children; visited = s.visited }

abbrev pub with_phase : {X : Type 0} → Snapshot X → Phase → Snapshot X
with_phase s phase = record { code = s.code; held = s.held; registers = s.registers; slots = s.slots; levels = s.levels; phase = phase; children = s.children; visited = s.visited }

abbrev pub with_children : {X : Type 0} → Snapshot X → List (Wrapped X) → Snapshot X
with_children s children = record { code = s.code; held = s.held; registers = s.registers; slots = s.slots; levels = s.levels; phase = s.phase; children = children; visited = s.visited }

abbrev pub with_visited : {X : Type 0} → Snapshot X → List Bool → Snapshot X
with_visited s visited = record { code = s.code; held = s.held; registers = s.registers; slots = s.slots; levels = s.levels; phase = s.phase; children = s.children; visited = visited }

-- the same moment but for the levels, which were other ones before
abbrev pub with_levels : {X : Type 0} → Snapshot X → List Bool → Snapshot X
with_levels s levels = record { code = s.code; held = s.held; registers = s.registers; slots = s.slots; levels = levels; phase = Striking s.levels None; children = s.children; visited = s.visited }

-- the same moment but calm, with these registers and children
abbrev pub committed : {X : Type 0} → Snapshot X → List ℕ → List (Wrapped X) → Snapshot X
committed s registers children = record { code = s.code; held = s.held; registers = registers; slots = s.slots; levels = s.levels; phase = Calm; children = children; visited = s.visited }
