-- What a leaf means, and what is known of it in its stages.
use Rattle.std.specs.Prelude.{◌≡◌, ℕ, ◌+◌, ◌-◌, ◌^◌, ◌≤◌, Bool, true, false, List, [], ◌++◌, length, take, drop}
use Rattle.bit_ops.specs.Lists.{words, widths}
use Rattle.code_isa.specs.declared.machine.Machine.{Machine}
use Rattle.code_isa.specs.Faces.{clock_count, output_widths}
use Rattle.code_isa.specs.Slots.{slot_widths, first_register}
use Rattle.code_isa.specs.Checks.{IsChecked}
use Rattle.code_isa.specs.Values.{IsRun}
use Rattle.code_isa.specs.Tree.{node, no_tree, State, state, no_state, words_at}
use Rattle.code_isa.specs.Traces.{IsStart}
use Rattle.model_stage.specs.Model.{Stage, Ready, Struck, Model}
use Rattle.leaf_model.specs.declared.leaf.Leaf.{Leaf}

-- of the words in a machine's slots those of the data inputs
abbrev pub held_in : Machine → List ℕ → List ℕ
held_in m slots = take (first_register m) slots

-- and those of the registers
abbrev pub registers_in : Machine → List ℕ → List ℕ
registers_in m slots = take (length m.regs) (drop (first_register m) slots)

-- the state of a machine alone with these words in its slots
abbrev pub state_at : Machine → List ℕ → State
state_at m slots = state (held_in m slots) (registers_in m slots) slots no_state

-- the stage of a leaf that is struck, or is not
abbrev pub stage_of : Bool → Stage
stage_of true = Struck
stage_of false = Ready

-- the model that a leaf is: its machine is the whole tree
abbrev pub model_of : Leaf → Model
model_of leaf = record {
  tree = node leaf.code.value no_tree;
  levels = leaf.levels.items;
  state = state_at leaf.code.value (words leaf.slots.items);
  shown = words leaf.shown.items;
  number = leaf.number;
  room = 2 ^ 63 - leaf.number;
  stage = stage_of leaf.struck;
}

-- what is known of a leaf in either stage: its code is run
pub record IsLeaf (leaf : Leaf) : Type 0 where
  pub checked : IsChecked leaf.code.value
  pub alone : leaf.code.value.kids ≡ []
  pub shape : widths leaf.slots.items ≡ slot_widths leaf.code.value
  pub run : IsRun leaf.code.value (words leaf.slots.items)
  pub levels_each : length leaf.levels.items ≡ clock_count leaf.code.value.face
  pub shown_wide : widths leaf.shown.items ≡ output_widths leaf.code.value.face
  pub next_each : length leaf.next.items ≡ length leaf.code.value.regs
  pub updates : leaf.updates ≤ leaf.number
  pub numbers : leaf.number ≤ 2 ^ 63

-- a ready one shows the words of its output slots
pub record IsReadyLeaf (leaf : Leaf) : Type 0 where
  pub known : IsLeaf leaf
  pub unstruck : leaf.struck ≡ false
  pub shown : words leaf.shown.items ≡ words_at (words leaf.slots.items) leaf.code.value.outs

-- a struck one shows what it showed before
pub record IsStruckLeaf (leaf : Leaf) : Type 0 where
  pub known : IsLeaf leaf
  pub struck : leaf.struck ≡ true

-- a leaf that begins: its inputs and levels are 0, its registers have their initial words, and it was never called
pub record Begins (leaf : Leaf) : Type 0 where
  pub start : IsStart (model_of leaf).tree (record { levels = (model_of leaf).levels; at = (model_of leaf).state })
  pub number : leaf.number ≡ 0

-- a list with these words from a position on
abbrev pub placed : List ℕ → ℕ → List ℕ → List ℕ
placed slots first values = take first slots ++ values ++ drop (first + length values) slots
