-- Nesting paths: what the depth and the product of a tree of models stand for.
use Rattle.std.specs.Prelude.{◌≡◌, ◌⊎◌, ℕ, ◌-◌, ◌*◌, ◌≤◌, List, [], ◌∷◌, length}
use Rattle.code_isa.specs.declared.machine.Machine.{Machine}
use Rattle.code_isa.specs.Tree.{Tree, node, Forest, no_tree, tree_and}
use Rattle.linked_units.specs.Figures.{factor_of}

-- a nesting path goes from the model at the top to one below it, each next one being a child of the one before
abbrev mutual
  pub Nests : Tree → List Machine → Type 0
  Nests (node m kids) [] = ⊥
  Nests (node m kids) (k ∷ path) = (k ≡ m) × ((path ≡ []) ⊎ NestsBelow kids path)

  pub NestsBelow : Forest → List Machine → Type 0
  NestsBelow no_tree path = ⊥
  NestsBelow (tree_and t trees) path = Nests t path ⊎ NestsBelow trees path

-- how many models of a path stand below the first one
abbrev pub depth_on : List Machine → ℕ
depth_on path = length path - 1

-- the product of the factors of a path's models
abbrev pub product_on : List Machine → ℕ
product_on [] = 1
product_on (m ∷ path) = factor_of m * product_on path

-- the greatest figure of a nesting path
pub record IsGreatest (figure : List Machine → ℕ) (t : Tree) (n : ℕ) : Type 0 where
  pub none_above : (path : List Machine) → Nests t path → figure path ≤ n
  pub path : List Machine
  pub nests : Nests t path
  pub reached : figure path ≡ n
