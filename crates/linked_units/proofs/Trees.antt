-- The trees below units.
use Rattle.std.proofs.Common.{◌≡◌, ℕ, zero, suc, ◌<◌, List, [], ◌∷◌, length, refl, ◌∙◌, ap, arith}
use Rattle.std.specs.List.{AllZip}
use Rattle.code_isa.specs.declared.machine.Kid.{Kid}
use Rattle.code_isa.specs.declared.machine.Machine.{Machine}
use Rattle.code_isa.specs.Checks.{IsChecked}
use Rattle.code_isa.specs.Tree.{Tree, node, Forest, no_tree, tree_and, top_of, IsLinked, AreLinked}
use Rattle.linked_units.specs.Units.{Units, HasCode, kids_of, StandsFor, AreJoined, IsTreeOf, AreTreesOf}
use Rattle.linked_units.proofs.Places.{code_is, one_code, unit_at, code_within}

abbrev Stand : Units → ℕ → List ℕ → List Kid → Type 0
Stand units n kids children = AllZip (λ kid child. (kid < n) × StandsFor units kid child) kids children

-- there is a tree below each unit
trees_below : (units : Units) (n : ℕ) → ((k : ℕ) → k < n → k < length units → (t : Tree) × IsTreeOf t units k)
    → (kids : List ℕ) (children : List Kid) → Stand units n kids children → (trees : Forest) × AreTreesOf trees units kids
trees_below units n before [] children h = (no_tree, tt)
trees_below units n before (kid ∷ kids) [] h = absurd h
trees_below units n before (kid ∷ kids) (child ∷ children) h =
    let first = before kid h.0.0 (code_within units kid h.0.1.code h.0.1.is) in
    let others = trees_below units n before kids children h.1 in
    (tree_and first.0 others.0, (first.1, others.1))

tree_within : (units : Units) → AreJoined units → (bound n : ℕ) → n < bound → n < length units → (t : Tree) × IsTreeOf t units n
tree_within units joined zero n h inside = absurd (omega arith)
tree_within units joined (suc bound) n h inside =
    let u = unit_at units n inside in
    let code = code_is units n u.0 u.1 in
    let trees = trees_below units n (λ k lower there. tree_within units joined bound k (omega arith) there) (kids_of units n) u.0.code.kids
    (joined n u.0.code code) in
    (node u.0.code trees.0, (code, trees.1))

pub tree_exists : (units : Units) → AreJoined units → (n : ℕ) → n < length units → (t : Tree) × IsTreeOf t units n
tree_exists units joined n inside = tree_within units joined (suc n) n (omega arith) inside

-- there is one
mutual
  pub one_tree : (units : Units) (t s : Tree) (n : ℕ) → IsTreeOf t units n → IsTreeOf s units n → t ≡ s
  one_tree units (node m trees) (node k others) n a b =
      let e : m ≡ k = one_code units n m k a.0 b.0 in
      let f : trees ≡ others = one_forest units trees others (kids_of units n) a.1 b.1 in
      cc

  one_forest : (units : Units) (trees others : Forest) (kids : List ℕ) → AreTreesOf trees units kids → AreTreesOf others units kids → trees ≡ others
  one_forest units no_tree no_tree [] a b = refl
  one_forest units no_tree (tree_and s others) [] a b = absurd b
  one_forest units no_tree others (kid ∷ kids) a b = absurd a
  one_forest units (tree_and t trees) others [] a b = absurd a
  one_forest units (tree_and t trees) no_tree (kid ∷ kids) a b = absurd b
  one_forest units (tree_and t trees) (tree_and s others) (kid ∷ kids) a b =
      let e : t ≡ s = one_tree units t s kid a.0 b.0 in
      let f : trees ≡ others = one_forest units trees others kids a.1 b.1 in
      cc

pub top_is : (units : Units) (t : Tree) (n : ℕ) → IsTreeOf t units n → HasCode units n (top_of t)
top_is units (node m trees) n h = h.0

-- it is linked
mutual
  pub tree_linked : (units : Units) → AreJoined units → ((n : ℕ) (m : Machine) → HasCode units n m → IsChecked m)
      → (t : Tree) (n : ℕ) → IsTreeOf t units n → IsLinked t
  tree_linked units joined checked (node m trees) n h =
      (checked n m h.0, forest_linked units joined checked trees n (kids_of units n) m.kids h.1 (joined n m h.0))

  forest_linked : (units : Units) → AreJoined units → ((n : ℕ) (m : Machine) → HasCode units n m → IsChecked m)
      → (trees : Forest) (n : ℕ) (kids : List ℕ) (children : List Kid) → AreTreesOf trees units kids → Stand units n kids children → AreLinked trees children
  forest_linked units joined checked no_tree n [] [] h z = tt
  forest_linked units joined checked no_tree n [] (child ∷ children) h z = absurd z
  forest_linked units joined checked no_tree n (kid ∷ kids) children h z = absurd h
  forest_linked units joined checked (tree_and t trees) n [] children h z = absurd h
  forest_linked units joined checked (tree_and t trees) n (kid ∷ kids) [] h z = absurd z
  forest_linked units joined checked (tree_and t trees) n (kid ∷ kids) (child ∷ children) h z =
      let e : top_of t ≡ z.0.1.code = one_code units kid (top_of t) z.0.1.code (top_is units t kid h.0) z.0.1.is in (
        ap (λ (m : Machine). m.face) e ∙ z.0.1.face,
        ap (λ (m : Machine). m.summary) e ∙ z.0.1.summary,
        tree_linked units joined checked t kid h.0,
        forest_linked units joined checked trees n kids children h.1 z.1,
      )
