-- Depth and product of a tree are the greatest of a nesting path.
use Rattle.std.proofs.Common.{◌≡◌, ◌⊎◌, ◌+◌, ◌*◌, ◌≤◌, List, [], ◌∷◌, length, refl, sym, ap, subst, inl, inr, arith}
use Rattle.std.proofs.Math.Nat.{mul-le-mul, mul-le-mul_left}
use Rattle.std.proofs.lemmas.Bool.{cases_lt}
use Rattle.code_isa.specs.declared.machine.Machine.{Machine}
use Rattle.code_isa.specs.Tree.{Tree, node, Forest, no_tree, tree_and}
use Rattle.linked_units.specs.Figures.{depth_of, depth_below, factor_of, product_of, product_below}
use Rattle.linked_units.specs.Paths.{Nests, NestsBelow, depth_on, product_on, IsGreatest}
use Rattle.linked_units.proofs.Counting.{product_positive, factor_with_positive}

mutual
  depth_bound : (t : Tree) (path : List Machine) → Nests t path → length path ≤ depth_of t + 1
  depth_bound (node m kids) [] h = absurd h
  depth_bound (node m kids) (k ∷ path) h = elim h.1 [
    | inl e ↦ (let z : length path ≡ 0 = ap length e in omega (arith, z))
    | inr below ↦ (let z : length path ≤ depth_below kids = depth_bound_below kids path below in omega (arith, z))
  ]

  depth_bound_below : (trees : Forest) (path : List Machine) → NestsBelow trees path → length path ≤ depth_below trees
  depth_bound_below no_tree path h = absurd h
  depth_bound_below (tree_and t trees) path h = elim h [
    | inl first ↦ (let z : length path ≤ depth_of t + 1 = depth_bound t path first in omega (arith, z))
    | inr others ↦ (let z : length path ≤ depth_below trees = depth_bound_below trees path others in omega (arith, z))
  ]

mutual
  depth_reached : (t : Tree) → (path : List Machine) × Nests t path × (length path ≡ depth_of t + 1)
  depth_reached (node m kids) = elim (depth_reached_below kids) [
    | inl none ↦ (m ∷ [], (refl, inl refl), omega (arith, none))
    | inr some ↦ (m ∷ some.0, (refl, inr some.1), omega (arith, some.2))
  ]

  depth_reached_below : (trees : Forest) → (depth_below trees ≡ 0) ⊎ ((path : List Machine) × NestsBelow trees path × (length path ≡ depth_below trees))
  depth_reached_below no_tree = inl refl
  depth_reached_below (tree_and t trees) =
      let first = depth_reached t in
      elim (cases_lt (depth_below trees) (depth_of t + 1)) [
        | inl less ↦ inr (first.0, inl first.1, omega (arith, first.2))
        | inr more ↦ elim (depth_reached_below trees) [
          | inl none ↦ absurd (omega (arith, none))
          | inr some ↦ inr (some.0, inr some.1, omega (arith, some.2))
        ]
      ]

pub depth_greatest : (t : Tree) → IsGreatest depth_on t (depth_of t)
depth_greatest t =
    let one = depth_reached t in
    record {
      none_above = λ path h. (let z = depth_bound t path h in omega (arith, z));
      path = one.0;
      nests = one.1;
      reached = omega (arith, one.2);
    }

one_bound : (m : Machine) (kids : Forest) (path : List Machine) → (path ≡ []) ⊎ (product_on path ≤ product_below kids)
    → product_on (m ∷ path) ≤ factor_of m * product_below kids
one_bound m kids path h = elim h [
  | inl e ↦ (
      let z : product_on path ≡ 1 = ap product_on e in
      let p : product_on path ≤ product_below kids = omega (arith, z, product_positive kids) in
      mul-le-mul_left (factor_of m) p)
  | inr below ↦ mul-le-mul_left (factor_of m) below
]

mutual
  product_bound : (t : Tree) (path : List Machine) → Nests t path → product_on path ≤ product_of t
  product_bound (node m kids) [] h = absurd h
  product_bound (node m kids) (k ∷ path) h =
      subst (λ (x : Machine). product_on (x ∷ path) ≤ factor_of m * product_below kids) (sym h.0)
      (one_bound m kids path (elim h.1 [ inl e ↦ inl e | inr below ↦ inr (product_bound_below kids path below) ]))

  product_bound_below : (trees : Forest) (path : List Machine) → NestsBelow trees path → product_on path ≤ product_below trees
  product_bound_below no_tree path h = absurd h
  product_bound_below (tree_and t trees) path h = elim h [
    | inl first ↦ (let z : product_on path ≤ product_of t = product_bound t path first in omega (arith, z))
    | inr others ↦ (let z : product_on path ≤ product_below trees = product_bound_below trees path others in omega (arith, z))
  ]

mutual
  product_reached : (t : Tree) → (path : List Machine) × Nests t path × (product_on path ≡ product_of t) × (1 ≤ product_of t)
  product_reached (node m kids) =
      let positive : 1 * 1 ≤ factor_of m * product_below kids = mul-le-mul (factor_with_positive m.kids m.chain) (product_positive kids) in
      elim (product_reached_below kids) [
        | inl none ↦ (m ∷ [], (refl, inl refl), ap (λ x. factor_of m * x) (sym none), omega (arith, positive))
        | inr some ↦ (m ∷ some.0, (refl, inr some.1), ap (λ x. factor_of m * x) some.2, omega (arith, positive))
      ]

  product_reached_below : (trees : Forest) → (product_below trees ≡ 1) ⊎ ((path : List Machine) × NestsBelow trees path × (product_on path ≡ product_below trees))
  product_reached_below no_tree = inl refl
  product_reached_below (tree_and t trees) =
      let first = product_reached t in
      elim (cases_lt (product_of t) (product_below trees)) [
        | inl more ↦ elim (product_reached_below trees) [
          | inl none ↦ absurd (omega (arith, none, first.3))
          | inr some ↦ inr (some.0, inr some.1, omega (arith, some.2))
        ]
        | inr less ↦ inr (first.0, inl first.1, omega (arith, first.2))
      ]

pub product_greatest : (t : Tree) → IsGreatest product_on t (product_of t)
product_greatest t =
    let one = product_reached t in
    record { none_above = λ path h. product_bound t path h; path = one.0; nests = one.1; reached = one.2 }
