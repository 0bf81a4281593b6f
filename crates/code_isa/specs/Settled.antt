-- Settled states of a tree of machines.
use Rattle.std.specs.Prelude.{◌≡◌, ℕ, ◌++◌, List, [], ◌∷◌, length, take}
use Rattle.code_isa.specs.declared.machine.Kid.{Kid}
use Rattle.code_isa.specs.declared.machine.Machine.{Machine}
use Rattle.code_isa.specs.Faces.{input_widths}
use Rattle.code_isa.specs.Slots.{slot_count, first_instruction}
use Rattle.code_isa.specs.Values.{IsRun}
use Rattle.code_isa.specs.Tree.{Tree, node, Forest, no_tree, tree_and, State, state, States, no_state, state_and, held_of, words_at, outs_of_all}

-- the slots of one machine hold its held inputs, its registers and the outputs of its children, and every instruction has
-- its value
pub record IsFilled (m : Machine) (held registers slots given : List ℕ) : Type 0 where
  pub sized : length slots ≡ slot_count m
  pub held_each : length held ≡ length (input_widths m.face)
  pub registers_each : length registers ≡ length m.regs
  pub given_slots : take (first_instruction m) slots ≡ held ++ registers ++ given
  pub run : IsRun m slots

-- settled: in every machine the slots are filled, and each child holds the words of the slots that it is joined to
abbrev mutual
  pub IsSettled : Tree → State → Type 0
  IsSettled (node m kids) (state held registers slots states) =
      IsFilled m held registers slots (outs_of_all kids states) × AreSettled kids m.kids slots states

  pub AreSettled : Forest → List Kid → List ℕ → States → Type 0
  AreSettled no_tree [] slots no_state = Unit {0}
  AreSettled no_tree [] slots (state_and s states) = ⊥
  AreSettled no_tree (kid ∷ kids) slots states = ⊥
  AreSettled (tree_and t trees) [] slots states = ⊥
  AreSettled (tree_and t trees) (kid ∷ kids) slots no_state = ⊥
  AreSettled (tree_and t trees) (kid ∷ kids) slots (state_and s states) =
      (held_of s ≡ words_at slots kid.ins) × IsSettled t s × AreSettled trees kids slots states

-- all registers of a tree, a machine's own before its children's, child by child
abbrev mutual
  pub all_registers : State → List ℕ
  all_registers (state held registers slots states) = registers ++ all_registers_of states

  pub all_registers_of : States → List ℕ
  all_registers_of no_state = []
  all_registers_of (state_and s states) = all_registers s ++ all_registers_of states

-- two states of a tree with the same registers in each machine
abbrev mutual
  pub HaveSameRegisters : State → State → Type 0
  HaveSameRegisters (state i r u ss) (state j q v zs) = (r ≡ q) × HaveAllSame ss zs

  pub HaveAllSame : States → States → Type 0
  HaveAllSame no_state no_state = Unit {0}
  HaveAllSame no_state (state_and z zs) = ⊥
  HaveAllSame (state_and s ss) no_state = ⊥
  HaveAllSame (state_and s ss) (state_and z zs) = HaveSameRegisters s z × HaveAllSame ss zs

-- a state with as many registers in each machine as the tree's has
abbrev mutual
  pub HasRegisters : Tree → State → Type 0
  HasRegisters (node m kids) (state held registers slots states) =
      (length registers ≡ length m.regs) × AllHaveRegisters kids states

  pub AllHaveRegisters : Forest → States → Type 0
  AllHaveRegisters no_tree no_state = Unit {0}
  AllHaveRegisters no_tree (state_and s states) = ⊥
  AllHaveRegisters (tree_and t trees) no_state = ⊥
  AllHaveRegisters (tree_and t trees) (state_and s states) = HasRegisters t s × AllHaveRegisters trees states
