-- paths joined, and what no path leaves
use Rattle.std.proofs.Common.{◌≡◌, ℕ, suc, zero, ◌<◌, List, [], length, take, get_or, ap, ◌∙◌, sym, arith, subst, inl, inr}
use Rattle.std.specs.Prelude.{Contains}
use Rattle.std.proofs.lemmas.List.{get_or-take, get_or_past, get_or_default, length-take}
use Rattle.std.proofs.lemmas.Bool.{cases_lt}
use Rattle.levelise.specs.Graph.{row_of, Reads, Path, step, longer, LiesOnCycle, IsLevelling}
use Rattle.levelise.proofs.Lists.{Contains-from_count}

-- a path, and a path on from its end
pub path_joined : {rows : List (List ℕ)} {a b c : ℕ} → Path rows a b → Path rows b c → Path rows a c
path_joined (step r) q = longer r q
path_joined (longer r p) q = longer r (path_joined p q)

-- what reads something is a node
pub node_from_Reads : (rows : List (List ℕ)) (a b : ℕ) → Reads rows a b → a < length rows
node_from_Reads rows a b r =
    elim (cases_lt a (length rows)) [
      | inl h ↦ h
      | inr past ↦
          let none : length (row_of rows a) ≡ 0 = ap length (get_or_past rows a [] past) in
          absurd (omega (arith, none, r.1))
    ]

pub node_from_Path : {rows : List (List ℕ)} {a b : ℕ} → Path rows a b → a < length rows
node_from_Path {rows} {a} {b} (step r) = node_from_Reads rows _ _ r
node_from_Path {rows} {a} {b} (longer r p) = node_from_Reads rows _ _ r

module _ (rows : List (List ℕ)) (order : List ℕ) (levelled : IsLevelling rows order) where
  -- what the node at a place of a levelling reads stands at an earlier one
  one_earlier : {a b : ℕ} → Reads rows a b → (k : ℕ) → k < length order → get_or order k 0 ≡ a →
      (j : ℕ) × (j < k) × (j < length order) × (get_or order j 0 ≡ b)
  one_earlier {a} {b} r k h e =
      let there : Reads rows (get_or order k 0) b = subst (λ x. Reads rows x b) (sym e) r in
      let found : Contains (take k order) b = levelled.after_reads k h b there in
      let short = length-take k order in
      let before : found.0 < k = omega (arith, short, found.1) in
      let inside : found.0 < length order = omega (arith, short, found.1) in
      (found.0, before, inside, get_or_default order found.0 0 b inside ∙ (sym (get_or-take k order found.0 b before) ∙ found.2))

  earlier : {a b : ℕ} → Path rows a b → (k : ℕ) → k < length order → get_or order k 0 ≡ a →
      (j : ℕ) × (j < k) × (j < length order) × (get_or order j 0 ≡ b)
  earlier (step r) k h e = one_earlier r k h e
  earlier (longer r p) k h e =
      let first = one_earlier r k h e in
      let later = earlier p first.0 first.2 first.3 in
      (later.0, omega (arith, first.1, later.1), later.2, later.3)

  no_cycle_within : (n k a : ℕ) → k < n → k < length order → get_or order k 0 ≡ a → LiesOnCycle rows a → ⊥
  no_cycle_within zero k a under h e p = absurd (omega arith)
  no_cycle_within (suc n) k a under h e p =
      let before = earlier p k h e in
      no_cycle_within n before.0 a (omega (arith, before.1)) before.2 before.3 p

  -- so no node of a levelling lies on a cycle
  pub cycle_free : (a : ℕ) → LiesOnCycle rows a → ⊥
  cycle_free a p =
      let once = levelled.each_once a (node_from_Path p) in
      let found = Contains-from_count a order (omega (arith, once)) in
      no_cycle_within (suc found.0) found.0 a (omega arith) found.1 (get_or_default order found.0 0 a found.1 ∙ found.2) p
