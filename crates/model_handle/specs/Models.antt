-- What a model in one of its stages means, and what is known of it.
use Rattle.std.specs.Prelude.{◌≡◌, ℕ, ◌+◌, ◌-◌, ◌^◌, ◌≤◌, ◌/◌, min, List, [], ◌∷◌, length, map}
use Rattle.bit_ops.specs.Lists.{words, widths}
use Rattle.code_isa.specs.Faces.{output_count, output_widths}
use Rattle.code_isa.specs.Checks.{IsChecked}
use Rattle.code_isa.specs.Tree.{held_of, outs_of}
use Rattle.code_isa.specs.Settled.{HaveSameRegisters}
use Rattle.model_stage.specs.Model.{Stage, Ready, Struck, Model}
use Rattle.wrapper_core.specs.declared.wrapped.Wrapped.{Wrapped}
use Rattle.wrapper_core.specs.declared.world.World.{World}
use Rattle.wrapper_core.specs.Snapshot.{Snapshot, tree_in, state_in}
use Rattle.wrapper_core.specs.Events.{IsQuiescent}
use Rattle.wrapper_core.specs.World.{IsWorld, moment_of}
use Rattle.model_handle.specs.declared.node.Node.{Node}
use Rattle.model_handle.specs.declared.node.Hit.{Hit}

-- the least of a room and of each of these rooms divided by a number and rounded down
abbrev pub least_room : ℕ → ℕ → List ℕ → ℕ
least_room own by [] = own
least_room own by (room ∷ rooms) = min (room / by) (least_room own by rooms)

-- The room of a model with this number of calls: what its number leaves up to 2 ^ 63, and of each child its room divided by the
-- chain and two, since a call updates or strikes a child at most so often
abbrev pub room_of : {X : Type 0} → (X → Model) → ℕ → Snapshot X → ℕ
room_of model number s = least_room (2 ^ 63 - number) (s.code.chain + 2) (map (λ (c : Wrapped _). (model c.child).room) s.children)

-- the model that a world is
abbrev pub model_in : {X : Type 0} → (X → Model) → Snapshot X → List ℕ → ℕ → Stage → Model
model_in model s shown number stage = record {
  tree = tree_in model s;
  levels = s.levels;
  state = state_in model s;
  shown = shown;
  number = number;
  room = room_of model number s;
  stage = stage;
}

-- a ready one shows the outputs of its tree, and a struck one those that it kept
abbrev pub node_model : {X : Type 0} → (X → Model) → Node X → Model
node_model model n = model_in model (moment_of n.world) (outs_of (tree_in model (moment_of n.world)) (state_in model (moment_of n.world))) n.number Ready

abbrev pub hit_model : {X : Type 0} → (X → Model) → Hit X → Model
hit_model model h = model_in model (moment_of h.world) (words h.shown.items) h.number Struck

-- in both stages the world is quiescent, and no number passes 2 ^ 63
pub record IsRest {X : Type 0} (model : X → Model) (ready struck : X → Type 0) (w : World X) (number : ℕ) : Type 0 where
  pub world : IsWorld model ready struck w
  pub checked : IsChecked (moment_of w).code
  pub quiescent : IsQuiescent model (moment_of w)
  pub numbers : number ≤ 2 ^ 63

-- a ready one has room for as many outputs as its face has
pub record IsReadyNode {X : Type 0} (model : X → Model) (ready struck : X → Type 0) (n : Node X) : Type 0 where
  pub rest : IsRest model ready struck n.world n.number
  pub each : length n.shown.items ≡ output_count (moment_of n.world).code.face

-- a struck one has kept outputs of the widths of its face
pub record IsStruckHit {X : Type 0} (model : X → Model) (ready struck : X → Type 0) (h : Hit X) : Type 0 where
  pub rest : IsRest model ready struck h.world h.number
  pub wide : widths h.shown.items ≡ output_widths (moment_of h.world).code.face

-- a new model of a world at this moment: its tree with the same held inputs, registers and levels, and no call so far
pub record Begins {X : Type 0} (model : X → Model) (s : Snapshot X) (n : Node X) : Type 0 where
  pub tree : (node_model model n).tree ≡ tree_in model s
  pub levels : (node_model model n).levels ≡ s.levels
  pub held : held_of (node_model model n).state ≡ s.held
  pub registers : HaveSameRegisters (state_in model s) (node_model model n).state
  pub number : n.number ≡ 0
