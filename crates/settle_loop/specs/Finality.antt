-- Which slots and held inputs have their last value already, by how many outputs of children stand on the paths behind them.
use Rattle.std.specs.Prelude.{◌≡◌, ℕ, ◌<◌, Some, List, ◌∷◌, count_by, map, slice_get, slice_index}
use Rattle.bit_ops.specs.Lists.{words}
use Rattle.code_isa.specs.declared.machine.Kid.{Kid}
use Rattle.code_isa.specs.declared.machine.Machine.{Machine}
use Rattle.code_isa.specs.Dependence.{IsPath, is_kid_slot}
use Rattle.code_isa.specs.Tree.{IsLinked, State, state, States, held_of, outs_of, words_at}
use Rattle.code_isa.specs.Settled.{IsFilled, IsSettled, HaveAllSame}
use Rattle.model_stage.specs.Model.{Model}
use Rattle.sequence_select.specs.Shown.{shown}
use Rattle.wrapper_core.specs.declared.wrapped.Wrapped.{Wrapped}
use Rattle.wrapper_core.specs.Snapshot.{Snapshot, all_shown, states_of, tree_in}

-- each path of dependence from the slot has fewer than n output slots of children
abbrev pub IsBelow : Machine → ℕ → ℕ → Type 0
IsBelow m n slot = (path : List ℕ) → IsPath m (slot ∷ path) → count_by (is_kid_slot m) (slot ∷ path) < n

-- the slots are those that the own code leaves
abbrev pub IsFresh : {X : Type 0} → Snapshot X → Type 0
IsFresh s = IsFilled s.code s.held s.registers s.slots (all_shown s.children)

-- the slots u and the states of the children are those of the settled state for the held inputs and all registers
pub record IsEnd {X : Type 0} (model : X → Model) (s : Snapshot X) (u : List ℕ) (states : States) : Type 0 where
  pub settled : IsSettled (tree_in model s) (state s.held s.registers u states)
  pub same : HaveAllSame (states_of (map (λ (c : Wrapped X). (model c.child).state) s.children)) states

-- a child's held inputs have their last value where the slots that they are joined to are below n
abbrev pub IsFinalAt : Machine → ℕ → List ℕ → Kid → State → Type 0
IsFinalAt m n u kid now = (p : ℕ) → IsBelow m n (slice_index kid.ins p) → slice_index (held_of now) p ≡ slice_index (words_at u kid.ins) p

-- so for each child
abbrev pub IsFinal : {X : Type 0} → (X → Model) → ℕ → List ℕ → Snapshot X → Type 0
IsFinal {X = X} model n u s =
    (i : ℕ) (kid : Kid) (c : Wrapped X) → slice_get s.code.kids i ≡ Some kid → slice_get s.children i ≡ Some c → IsFinalAt s.code n u kid (model c.child).state

-- the machines fit each other, and each child is settled and shows the outputs of its tree
pub record IsWhole {X : Type 0} (model : X → Model) (s : Snapshot X) : Type 0 where
  pub linked : IsLinked (tree_in model s)
  pub settled : (i : ℕ) (c : Wrapped X) → slice_get s.children i ≡ Some c → IsSettled (model c.child).tree (model c.child).state
  pub shows : (i : ℕ) (c : Wrapped X) → slice_get s.children i ≡ Some c → words (shown c.wrapper) ≡ outs_of (model c.child).tree (model c.child).state
