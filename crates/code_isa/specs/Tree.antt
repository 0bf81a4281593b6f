-- Trees of machines, and their states.
use Rattle.std.specs.Prelude.{◌≡◌, ℕ, List, [], ◌∷◌, ◌++◌, map, slice_index}
use Rattle.code_isa.specs.declared.machine.Kid.{Kid}
use Rattle.code_isa.specs.declared.machine.Machine.{Machine}
use Rattle.code_isa.specs.Checks.{IsChecked}

-- a machine, and a tree for each of its children
mutual
  pub data Tree : Type 0 where
    node : Machine → Forest → Tree

  pub data Forest : Type 0 where
    no_tree : Forest
    tree_and : Tree → Forest → Forest

-- the machine at the top
abbrev pub top_of : Tree → Machine
top_of (node m kids) = m

-- the trees of a list
abbrev pub forest_of : List Tree → Forest
forest_of [] = no_tree
forest_of (t ∷ trees) = tree_and t (forest_of trees)

-- linked: each machine is checked and has one tree for each of its children, each with the face and the summary that the
-- machine names
abbrev mutual
  pub IsLinked : Tree → Type 0
  IsLinked (node m kids) = IsChecked m × AreLinked kids m.kids

  pub AreLinked : Forest → List Kid → Type 0
  AreLinked no_tree [] = Unit {0}
  AreLinked no_tree (kid ∷ kids) = ⊥
  AreLinked (tree_and t trees) [] = ⊥
  AreLinked (tree_and t trees) (kid ∷ kids) =
      ((top_of t).face ≡ kid.face) × ((top_of t).summary ≡ kid.summary) × IsLinked t × AreLinked trees kids

-- held inputs, registers and slots of each machine of a tree, as words
mutual
  pub data State : Type 0 where
    state : List ℕ → List ℕ → List ℕ → States → State

  pub data States : Type 0 where
    no_state : States
    state_and : State → States → States

-- those of the machine at the top
abbrev pub held_of : State → List ℕ
held_of (state held registers slots kids) = held

abbrev pub registers_of : State → List ℕ
registers_of (state held registers slots kids) = registers

abbrev pub slots_of : State → List ℕ
slots_of (state held registers slots kids) = slots

-- the words of these slots
abbrev pub words_at : List ℕ → List ℕ → List ℕ
words_at words slots = map (λ slot. slice_index words slot) slots

-- the words of a tree's outputs in a state, and those of the registers' next slots
abbrev pub outs_of : Tree → State → List ℕ
outs_of t s = words_at (slots_of s) (top_of t).outs

abbrev pub nexts_of : Tree → State → List ℕ
nexts_of t s = words_at (slots_of s) (map (λ r. r.next) (top_of t).regs)

-- the words of the outputs of all trees of a list, tree by tree
abbrev pub outs_of_all : Forest → States → List ℕ
outs_of_all no_tree states = []
outs_of_all (tree_and t trees) no_state = []
outs_of_all (tree_and t trees) (state_and s states) = outs_of t s ++ outs_of_all trees states
