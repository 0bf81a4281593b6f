-- A new world.
use Rattle.std.specs.Prelude.{◌≡◌, ℕ, Bool, false, Some, List, length, map, replicate, slice_get}
use Rattle.bit_ops.specs.Lists.{words}
use Rattle.code_isa.specs.declared.machine.Kid.{Kid}
use Rattle.code_isa.specs.declared.machine.Machine.{Machine}
use Rattle.code_isa.specs.Slots.{slot_count}
use Rattle.code_isa.specs.Tree.{top_of}
use Rattle.code_isa.specs.Traces.{levels_at}
use Rattle.model_stage.specs.Model.{Model}
use Rattle.sequence_select.specs.Shown.{Taken}
use Rattle.wrapper_core.specs.declared.wrapped.Wrapped.{Wrapped}
use Rattle.wrapper_core.specs.Snapshot.{Calm, Snapshot}

-- a ready child with the face and the summary that the machine names, at the levels that it is joined to
pub record IsJoined {X : Type 0} (model : X → Model) (ready : X → Type 0) (levels : List Bool) (kid : Kid) (child : X) : Type 0 where
  pub ready_now : ready child
  pub face : (top_of (model child).tree).face ≡ kid.face
  pub summary : (top_of (model child).tree).summary ≡ kid.summary
  pub levels_are : (model child).levels ≡ levels_at levels kid.clocks

-- one for each child of the machine
pub record AreJoined {X : Type 0} (model : X → Model) (ready : X → Type 0) (m : Machine) (levels : List Bool) (children : List X) : Type 0 where
  pub each : length children ≡ length m.kids
  pub joined : (i : ℕ) (kid : Kid) (child : X) → slice_get m.kids i ≡ Some kid → slice_get children i ≡ Some child → IsJoined model ready levels kid child

-- a wrapper with both numbers 0 and a child's outputs in both lists
pub record IsNewWrapper (shown : List ℕ) (w : Taken) : Type 0 where
  pub combo_no : w.combo_no ≡ 0
  pub seq_no : w.seq_no ≡ 0
  pub combo : words w.out_combo ≡ shown
  pub seq : words w.out_seq ≡ shown

-- the moment at which a world begins: calm, with every slot 0 and no mark of a visit
pub record IsStart {X : Type 0} (model : X → Model) (m : Machine) (held : List ℕ) (levels : List Bool) (registers : List ℕ) (children : List X) (s : Snapshot X) : Type 0 where
  pub code : s.code ≡ m
  pub held_are : s.held ≡ held
  pub registers_are : s.registers ≡ registers
  pub slots : s.slots ≡ replicate (slot_count m) 0
  pub levels_are : s.levels ≡ levels
  pub phase : s.phase ≡ Calm
  pub children_are : map (λ c. c.child) s.children ≡ children
  pub wrappers : (i : ℕ) (c : Wrapped X) → slice_get s.children i ≡ Some c → IsNewWrapper (model c.child).shown c.wrapper
  pub visited : s.visited ≡ replicate (length m.kids) false
