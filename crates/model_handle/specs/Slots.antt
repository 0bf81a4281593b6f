-- A model in whichever stage it is.
use Rattle.std.proofs.Common.{[], refl, arith}
use Rattle.std.specs.Prelude.{All, codes}
use Rattle.sv_base.specs.declared.face.Face.{Face}
use Rattle.code_isa.specs.declared.machine.Machine.{Machine}
use Rattle.code_isa.specs.Faces.{IsFace, IsSummary}
use Rattle.code_isa.specs.Tree.{node, no_tree, state, no_state}
use Rattle.model_stage.specs.Model.{Stage, Model, IsReady, IsStruck}
use Rattle.model_stage.specs.Model as stage
use Rattle.model_handle.specs.declared.slot.Slot.{Slot}
use Rattle.model_handle.specs.declared.slot.Slot.TheVariants.{Ready, Struck, Moving}
use Rattle.model_handle.specs.Models.{node_model, hit_model, IsReadyNode, IsStruckHit}
use Rattle.model_handle.specs.Known.{node_is_ready, hit_is_struck}

-- ---- what stands for a model that is moved: a machine without ports

no_face : Face
no_face = record { name = codes "m"; ports = [] }

none : {Y : Type 0} (P : Y → Type 0) → All P []
none P k d low = absurd (let clash : ⊥ = omega (arith, low) in clash)

no_face_fits : IsFace no_face
unfolding no_face
no_face_fits = record { name = record { form = refl; short = omega arith }; few = omega arith; ports = none _ }

no_summary_fits : IsSummary no_face (record { rows = [] })
unfolding no_face
no_summary_fits = record { rows = refl; short = none _; positions = none _ }

no_machine : Machine
unfolding no_face
no_machine = record { face = no_face; summary = record { rows = [] }; chain = 0; regs = []; kids = []; code = []; outs = []; face_fits = no_face_fits; summary_fits = no_summary_fits; chain_fits = omega arith; few_kids = omega arith; all_driven = refl }

pub no_model : Model
no_model = record { tree = node no_machine no_tree; levels = []; state = state [] [] [] no_state; shown = []; number = 0; room = 0; stage = stage.Ready }

-- ---- slots

-- the model in a slot; while it is moved, none
abbrev pub slot_model : {X : Type 0} → (X → Model) → Slot X → Model
slot_model model (Ready n) = node_model model n
slot_model model (Struck h) = hit_model model h
slot_model model Moving = no_model

-- it is ready
abbrev pub IsReadySlot : {X : Type 0} → (X → Model) → (X → Type 0) → (X → Type 0) → Slot X → Type 0
IsReadySlot model ready struck (Ready n) = IsReadyNode model ready struck n
IsReadySlot model ready struck (Struck h) = ⊥
IsReadySlot model ready struck Moving = ⊥

-- it is struck
abbrev pub IsStruckSlot : {X : Type 0} → (X → Model) → (X → Type 0) → (X → Type 0) → Slot X → Type 0
IsStruckSlot model ready struck (Ready n) = ⊥
IsStruckSlot model ready struck (Struck h) = IsStruckHit model ready struck h
IsStruckSlot model ready struck Moving = ⊥

module _ {X : Type 0} (model : X → Model) (ready struck : X → Type 0) (law : (c : X) → ready c → IsReady (model c)) where
  pub slot_is_ready : (s : Slot X) → IsReadySlot model ready struck s → IsReady (slot_model model s)
  slot_is_ready (Ready n) is = node_is_ready model ready struck law n is
  slot_is_ready (Struck h) is = absurd is
  slot_is_ready Moving is = absurd is

  pub slot_is_struck : (s : Slot X) → IsStruckSlot model ready struck s → IsStruck (slot_model model s)
  slot_is_struck (Ready n) is = absurd is
  slot_is_struck (Struck h) is = hit_is_struck model ready struck law h is
  slot_is_struck Moving is = absurd is
