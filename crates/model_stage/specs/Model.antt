-- What a child means, and what its calls do to that.
use Rattle.std.specs.Prelude.{◌≡◌, ℕ, ◌+◌, ◌^◌, ◌≤◌, Bool, List, length}
use Rattle.code_isa.specs.Faces.{clock_count, output_count}
use Rattle.code_isa.specs.Tree.{Tree, top_of, IsLinked, State, held_of, outs_of}
use Rattle.code_isa.specs.Settled.{IsSettled, HaveSameRegisters}
use Rattle.code_isa.specs.Traces.{TakesEdges}

-- ready for a call; or struck: it has made a step of its clocks that it does not show yet
pub data Stage : Type 0 where
  Ready : Stage
  Struck : Stage

-- A model of a sealed module: the linked tree of its machines with the levels of the clocks at its top and its state, the words of
-- the outputs that it shows, the number of its updates and steps so far, how many may still follow, and its stage
pub record Model : Type 0 where
  pub tree : Tree
  pub levels : List Bool
  pub state : State
  pub shown : List ℕ
  pub number : ℕ
  pub room : ℕ
  pub stage : Stage

-- in either stage its tree is settled, and no number passes 2 ^ 63
pub record IsModel (m : Model) : Type 0 where
  pub linked : IsLinked m.tree
  pub settled : IsSettled m.tree m.state
  pub levels_each : length m.levels ≡ clock_count (top_of m.tree).face
  pub shown_each : length m.shown ≡ output_count (top_of m.tree).face
  pub numbers : m.number + m.room ≤ 2 ^ 63

-- a ready model shows the outputs of its tree
pub record IsReady (m : Model) : Type 0 where
  pub model : IsModel m
  pub stage : m.stage ≡ Ready
  pub shown : m.shown ≡ outs_of m.tree m.state

-- a struck one shows some that it showed before
pub record IsStruck (m : Model) : Type 0 where
  pub model : IsModel m
  pub stage : m.stage ≡ Struck

-- an update with these inputs: it holds them, and its registers and levels are kept
pub record Updates (inputs : List ℕ) (old new : Model) : Type 0 where
  pub tree : new.tree ≡ old.tree
  pub levels : new.levels ≡ old.levels
  pub held : held_of new.state ≡ inputs
  pub registers : HaveSameRegisters old.state new.state
  pub number : new.number ≡ old.number + 1
  pub room : old.room ≤ new.room + 1

-- a strike with these levels: the registers take their edges, the inputs are kept, and it shows what it showed
pub record Strikes (given : List Bool) (old new : Model) : Type 0 where
  pub tree : new.tree ≡ old.tree
  pub levels : new.levels ≡ given
  pub held : held_of new.state ≡ held_of old.state
  pub registers : TakesEdges old.tree old.levels given old.state new.state
  pub shown : new.shown ≡ old.shown
  pub number : new.number ≡ old.number + 1
  pub room : old.room ≤ new.room + 1

-- a publication: it shows the outputs of its tree and is ready, and nothing else changes
abbrev pub Publishes : Model → Model → Type 0
Publishes old new = new ≡ record { tree = old.tree; levels = old.levels; state = old.state; shown = outs_of old.tree old.state; number = old.number; room = old.room; stage = Ready }
