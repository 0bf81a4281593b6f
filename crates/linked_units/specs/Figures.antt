-- The figures of a tree of models.
use Rattle.std.specs.Prelude.{ℕ, ◌+◌, ◌*◌, ◌≤◌, max, List, [], ◌∷◌}
use Rattle.code_isa.specs.declared.machine.Kid.{Kid}
use Rattle.code_isa.specs.declared.machine.Machine.{Machine}
use Rattle.code_isa.specs.Tree.{Tree, node, Forest, no_tree, tree_and}
use Rattle.linked_units.specs.declared.limits.TheConstants.{DEPTH_LIMIT, PRODUCT_LIMIT, MODEL_LIMIT}

-- the greatest number of models below the top one on one nesting path
abbrev mutual
  pub depth_of : Tree → ℕ
  depth_of (node m kids) = depth_below kids

  pub depth_below : Forest → ℕ
  depth_below no_tree = 0
  depth_below (tree_and t trees) = max (depth_of t + 1) (depth_below trees)

-- what a model adds to a product: 2 more than its chain where it has children, and nothing where it has none
abbrev pub factor_with : List Kid → ℕ → ℕ
factor_with [] chain = 1
factor_with (kid ∷ kids) chain = chain + 2

abbrev pub factor_of : Machine → ℕ
factor_of m = factor_with m.kids m.chain

-- the greatest product of the factors of the models on one nesting path
abbrev mutual
  pub product_of : Tree → ℕ
  product_of (node m kids) = factor_of m * product_below kids

  pub product_below : Forest → ℕ
  product_below no_tree = 1
  product_below (tree_and t trees) = max (product_of t) (product_below trees)

-- how many models there are, each as often as it stands in the tree
abbrev mutual
  pub models_of : Tree → ℕ
  models_of (node m kids) = 1 + models_below kids

  pub models_below : Forest → ℕ
  models_below no_tree = 0
  models_below (tree_and t trees) = models_of t + models_below trees

-- none of the figures is above its limit
pub record IsWithinLimits (t : Tree) : Type 0 where
  pub depth : depth_of t ≤ DEPTH_LIMIT
  pub product : product_of t ≤ PRODUCT_LIMIT
  pub models : models_of t ≤ MODEL_LIMIT
