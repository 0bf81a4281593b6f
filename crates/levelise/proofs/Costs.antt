-- what the nodes that are not met yet cost, after a step
use Rattle.std.proofs.Common.{◌≡◌, ℕ, suc, zero, ◌+◌, ◌<◌, ◌≤◌, List, [], ◌∷◌, length, set, refl, ap, arith}
use Rattle.levelise.specs.declared.search.Mark.{Mark}
use Rattle.levelise.specs.declared.search.Mark.TheVariants.{New, Open, Done}
use Rattle.levelise.specs.Graph.{row_of}
use Rattle.levelise.specs.Search.{mark_of, cost_of, cost_to_come}

-- a node that is met costs nothing any more
pub cost-set : (marks : List Mark) (rows : List (List ℕ)) (a p : ℕ) → a < length marks → a < length rows →
    mark_of marks a ≡ New →
    cost_to_come (set marks a (Open p)) rows + (2 + length (row_of rows a)) ≡ cost_to_come marks rows
cost-set [] rows a p h inside new = absurd (omega arith)
cost-set (m ∷ marks) [] a p h inside new = absurd (omega arith)
cost-set (m ∷ marks) (row ∷ rows) zero p h inside new =
    let cost : cost_of m row ≡ 2 + length row = ap (λ x. cost_of x row) new in
    omega arith
cost-set (m ∷ marks) (row ∷ rows) (suc a) p h inside new =
    let rest = cost-set marks rows a p (omega arith) (omega arith) new in
    omega (arith, rest)

cost-le : (m m' : Mark) (row : List ℕ) → (m' ≡ New → m ≡ New) → cost_of m' row ≤ cost_of m row
cost-le m New row keeps = let cost : cost_of m row ≡ 2 + length row = ap (λ x. cost_of x row) (keeps refl) in omega arith
cost-le m (Open p) row keeps = omega arith
cost-le m Done row keeps = omega arith

-- where no node is forgotten, the rest costs no more
pub cost_falls : (marks marks' : List Mark) (rows : List (List ℕ)) → length marks' ≡ length marks →
    ((a : ℕ) → mark_of marks' a ≡ New → mark_of marks a ≡ New) →
    cost_to_come marks' rows ≤ cost_to_come marks rows
cost_falls marks [] rows same keeps = omega arith
cost_falls [] (m' ∷ marks') rows same keeps = absurd (omega arith)
cost_falls (m ∷ marks) (m' ∷ marks') [] same keeps = omega arith
cost_falls (m ∷ marks) (m' ∷ marks') (row ∷ rows) same keeps =
    let first = cost-le m m' row (keeps 0) in
    let rest = cost_falls marks marks' rows (omega arith) (λ a. keeps (suc a)) in
    omega (arith, first, rest)
