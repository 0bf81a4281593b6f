-- Units, the tree of models below each, and why units are not linked.
use Rattle.std.specs.Prelude.{◌≡◌, ℕ, ◌+◌, ◌<◌, ◌≤◌, ◌^◌, List, [], ◌∷◌, length, slice_get, Some, option_map, unwrap_or, ⊤}
use Rattle.std.specs.List.{AllZip}
use Rattle.code_isa.specs.declared.machine.Kid.{Kid}
use Rattle.code_isa.specs.declared.machine.Machine.{Machine}
use Rattle.code_isa.specs.Checks.{IsChecked}
use Rattle.code_isa.specs.Tree.{Tree, node, Forest, no_tree, tree_and}
use Rattle.linked_units.specs.declared.unit.Unit as declared
use Rattle.linked_units.specs.declared.fault.LinkFault.{LinkFault}
use Rattle.linked_units.specs.declared.fault.LinkFault.TheVariants.{Missing, Mismatch, Deep, Heavy, Crowded, NoMemory}
use Rattle.linked_units.specs.declared.limits.TheConstants.{DEPTH_LIMIT, PRODUCT_LIMIT, MODEL_LIMIT}
use Rattle.linked_units.specs.Figures.{depth_of, product_of, models_of, IsWithinLimits}

-- units in the order of their numbers, from 0 on
abbrev pub Units : Type 0
Units = List declared.Unit

-- the unit with this number has this code
abbrev pub HasCode : Units → ℕ → Machine → Type 0
HasCode units n m = option_map (λ u. u.code) (slice_get units n) ≡ Some m

-- the numbers of a unit's kids
abbrev pub kids_of : Units → ℕ → List ℕ
kids_of units n = unwrap_or (option_map (λ u. u.kids) (slice_get units n)) []

-- a unit stands for a child: it has the face and the summary that the child's parent names
pub record StandsFor (units : Units) (kid : ℕ) (child : Kid) : Type 0 where
  pub code : Machine
  pub is : HasCode units kid code
  pub face : code.face ≡ child.face
  pub summary : code.summary ≡ child.summary

-- each unit has one kid for each child of its code, in order, with a lower number, which stands for the child
abbrev pub AreJoined : Units → Type 0
AreJoined units = (n : ℕ) (m : Machine) → HasCode units n m
    → AllZip (λ kid child. (kid < n) × StandsFor units kid child) (kids_of units n) m.kids

-- the tree of models below a unit: its code, and the tree below each of its kids
abbrev mutual
  pub IsTreeOf : Tree → Units → ℕ → Type 0
  IsTreeOf (node m trees) units n = HasCode units n m × AreTreesOf trees units (kids_of units n)

  pub AreTreesOf : Forest → Units → List ℕ → Type 0
  AreTreesOf no_tree units [] = Unit {0}
  AreTreesOf no_tree units (kid ∷ kids) = ⊥
  AreTreesOf (tree_and t trees) units [] = ⊥
  AreTreesOf (tree_and t trees) units (kid ∷ kids) = IsTreeOf t units kid × AreTreesOf trees units kids

-- the last unit is the root
abbrev pub IsRoot : Units → ℕ → Type 0
IsRoot units n = n + 1 ≡ length units

-- each code is that of a checked machine
abbrev pub AreChecked : Units → Type 0
AreChecked units = (n : ℕ) (m : Machine) → HasCode units n m → IsChecked m

-- the tree below the last unit is within the limits
pub record AreWithinLimits (units : Units) : Type 0 where
  pub root : ℕ
  pub last : IsRoot units root
  pub tree : Tree
  pub below : IsTreeOf tree units root
  pub within : IsWithinLimits tree

-- units that are linked
pub record AreLinkedUnits (units : Units) : Type 0 where
  pub few : length units < 2 ^ 32
  pub joined : AreJoined units
  pub checked : AreChecked units
  pub within : AreWithinLimits units

-- why a tree is refused: the first limit that it passes; the figure is told as one above the limit
abbrev pub Passes : Tree → LinkFault → Type 0
Passes t (Missing unit digest) = ⊥
Passes t (Mismatch unit kid) = ⊥
Passes t (Deep depth) = (DEPTH_LIMIT < depth_of t) × (depth ≡ DEPTH_LIMIT + 1)
Passes t (Heavy product) =
    (depth_of t ≤ DEPTH_LIMIT) × (PRODUCT_LIMIT < product_of t) × (product ≡ PRODUCT_LIMIT + 1)
Passes t (Crowded models) =
    (depth_of t ≤ DEPTH_LIMIT) × (product_of t ≤ PRODUCT_LIMIT) × (MODEL_LIMIT < models_of t)
    × (models ≡ MODEL_LIMIT + 1)
Passes t NoMemory = ⊤

-- why units are refused: the tree below the last one is
pub record AreRefused (units : Units) (fault : LinkFault) : Type 0 where
  pub root : ℕ
  pub last : IsRoot units root
  pub tree : Tree
  pub below : IsTreeOf tree units root
  pub passes : Passes tree fault
