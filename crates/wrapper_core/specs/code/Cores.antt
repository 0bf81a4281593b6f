-- What is known of a block and the children around it.
use Rattle.std.specs.Prelude.{◌≡◌, ℕ, ◌+◌, ◌<◌, ◌≤◌, Bool, true, false, Some, List, length, take, drop, slice_get, slice_set}
use Rattle.std.specs.List.{flat_map}
use Rattle.bit_ops.specs.Lists.{words, widths}
use Rattle.code_isa.specs.declared.machine.Kid.{Kid}
use Rattle.code_isa.specs.declared.machine.Machine.{Machine}
use Rattle.code_isa.specs.Faces.{output_count, output_widths}
use Rattle.code_isa.specs.Slots.{first_kid_output}
use Rattle.code_isa.specs.Tree.{top_of}
use Rattle.model_stage.specs.Model.{Model}
use Rattle.sequence_select.specs.Shown.{shown}
use Rattle.wrapper_core.specs.declared.block.Block.{Block}
use Rattle.wrapper_core.specs.declared.buffer.Buffer.{Buffer}
use Rattle.wrapper_core.specs.declared.wrapped.Wrapped.{Wrapped}
use Rattle.wrapper_core.specs.Snapshot.{all_shown}
use Rattle.wrapper_core.specs.Events.{IsPublished}
use Rattle.wrapper_core.specs.code.Blocks.{IsBlock, Keeps}
use Rattle.wrapper_core.specs.code.Samplings.{registers_of_block, held_of_block}

-- a child that is not struck is ready, and its wrapper has taken no later number than its own
pub record StandsReady {X : Type 0} (model : X → Model) (ready : X → Type 0) (c : Wrapped X) : Type 0 where
  pub ready_now : ready c.child
  pub numbers : (c.wrapper.combo_no ≤ (model c.child).number) × (c.wrapper.seq_no ≤ (model c.child).number)

-- of one that is struck it has taken only earlier ones
pub record StandsStruck {X : Type 0} (model : X → Model) (struck : X → Type 0) (c : Wrapped X) : Type 0 where
  pub struck_now : struck c.child
  pub numbers : (c.wrapper.combo_no < (model c.child).number) × (c.wrapper.seq_no < (model c.child).number)

-- a child in its stage
abbrev pub Stands : {X : Type 0} → (X → Model) → (X → Type 0) → (X → Type 0) → Bool → Wrapped X → Type 0
Stands model ready struck true c = StandsStruck model struck c
Stands model ready struck false c = StandsReady model ready c

-- a child has the face and the summary that the machine names, and its wrapper shows what it shows
pub record IsSeated {X : Type 0} (model : X → Model) (ready struck : X → Type 0) (kid : Kid) (c : Wrapped X) : Type 0 where
  pub face : (top_of (model c.child).tree).face ≡ kid.face
  pub summary : (top_of (model c.child).tree).summary ≡ kid.summary
  pub stage : Stands model ready struck c.struck c
  pub shown_is : words (shown c.wrapper) ≡ (model c.child).shown
  pub combo_wide : widths c.wrapper.out_combo ≡ output_widths kid.face
  pub seq_wide : widths c.wrapper.out_seq ≡ output_widths kid.face

-- the buffer of a child has room for its inputs, outputs and levels
pub record HasBufferRoom (kid : Kid) (b : Buffer) : Type 0 where
  pub ins : length b.ins.items ≡ length kid.ins
  pub outs : length b.outs.items ≡ output_count kid.face
  pub clocks : length b.levels.items ≡ length kid.clocks

-- and knows the slot of its first output
pub record IsBuffer (m : Machine) (i : ℕ) (kid : Kid) (b : Buffer) : Type 0 where
  pub first : b.first ≡ first_kid_output m + length (flat_map (λ (k : Kid). output_widths k.face) (take i m.kids))
  pub has_room : HasBufferRoom kid b

-- the block, the children and the buffers fit each other
pub record IsCore {X : Type 0} (model : X → Model) (ready struck : X → Type 0) (b : Block) (children : List (Wrapped X)) (buffers : List Buffer) : Type 0 where
  pub block : IsBlock b
  pub children_each : length children ≡ length b.code.value.kids
  pub buffers_each : length buffers ≡ length b.code.value.kids
  pub buffers_fit : (i : ℕ) (kid : Kid) (f : Buffer) → slice_get b.code.value.kids i ≡ Some kid → slice_get buffers i ≡ Some f → IsBuffer b.code.value i kid f
  pub seated : (i : ℕ) (kid : Kid) (c : Wrapped X) → slice_get b.code.value.kids i ≡ Some kid → slice_get children i ≡ Some c → IsSeated model ready struck kid c
  pub given : drop (first_kid_output b.code.value) (words b.given.items) ≡ all_shown children

-- the block has the same code, slots, held inputs and registers
pub record KeepsOwn (old new : Block) : Type 0 where
  pub keeps : Keeps old new
  pub held : held_of_block new ≡ held_of_block old
  pub registers : registers_of_block new ≡ registers_of_block old

-- one child is published
pub record PublishesAt {X : Type 0} (model : X → Model) (i : ℕ) (old new : List (Wrapped X)) : Type 0 where
  pub was : Wrapped X
  pub was_at : slice_get old i ≡ Some was
  pub now : Wrapped X
  pub published : IsPublished model was now
  pub rest : new ≡ slice_set old i now

-- a child is there that is not struck
pub record HasUnstruck {X : Type 0} (children : List (Wrapped X)) (i : ℕ) : Type 0 where
  pub was : Wrapped X
  pub was_at : slice_get children i ≡ Some was
  pub unstruck : was.struck ≡ false
