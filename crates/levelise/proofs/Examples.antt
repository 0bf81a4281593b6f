-- the definitions at small graphs
use Rattle.std.proofs.Common.{◌≡◌, ℕ, suc, zero, ◌<◌, List, [], ◌∷◌, get_or, take, eqb, count_by, refl, sym, arith}
use Rattle.std.specs.Prelude.{Contains}
use Rattle.levelise.specs.Graph.{row_of, Reads, Path, step, longer, LiesOnCycle, IsLevelling}

-- node 0 reads node 1, and node 1 reads nothing
abbrev chain : List (List ℕ)
chain = (1 ∷ []) ∷ [] ∷ []

chain_row : row_of chain 0 ≡ 1 ∷ []
chain_row = refl

no_such_row : row_of chain 2 ≡ []
no_such_row = refl

chain_nodes : (k d : ℕ) → k < 2 → get_or (1 ∷ 0 ∷ []) k d < 2
chain_nodes zero d h = omega arith
chain_nodes (suc zero) d h = omega arith
chain_nodes (suc (suc k)) d h = absurd (omega arith)

chain_once : (a : ℕ) → a < 2 → count_by (λ b. eqb b a) (1 ∷ 0 ∷ []) ≡ 1
chain_once zero h = refl
chain_once (suc zero) h = refl
chain_once (suc (suc a)) h = absurd (omega arith)

chain_after : (k : ℕ) → k < 2 → (b : ℕ) → Reads chain (get_or (1 ∷ 0 ∷ []) k 0) b → Contains (take k (1 ∷ 0 ∷ [])) b
chain_after zero h b r = absurd (omega (arith, r.1))
chain_after (suc zero) h b r = r
chain_after (suc (suc k)) h b r = absurd (omega arith)

-- node 1 stands before node 0, which reads it
chain_levelled : IsLevelling chain (1 ∷ 0 ∷ [])
chain_levelled = record {
  only_nodes = chain_nodes;
  each_once = chain_once;
  after_reads = chain_after;
}

-- node 0 reads node 1, and node 1 reads itself
abbrev lead : List (List ℕ)
lead = (1 ∷ []) ∷ (1 ∷ []) ∷ []

-- a node that reads itself lies on a cycle
self_read : LiesOnCycle lead 1
self_read = step (0, omega arith, refl)

only_entry : (k b : ℕ) → k < 1 → get_or (1 ∷ []) k b ≡ b → b ≡ 1
only_entry zero b h e = sym e
only_entry (suc k) b h e = absurd (omega arith)

only_read : (a b : ℕ) → Reads lead a b → b ≡ 1
only_read zero b r = only_entry r.0 b r.1 r.2
only_read (suc zero) b r = only_entry r.0 b r.1 r.2
only_read (suc (suc a)) b r = absurd (omega (arith, r.1))

only_reached : {a b : ℕ} → Path lead a b → b ≡ 1
only_reached (step r) = only_read _ _ r
only_reached (longer r p) = only_reached p

-- a node that only leads to a cycle lies on none
leads_only : LiesOnCycle lead 0 → ⊥
leads_only p = let same : ◌≡◌ {A = ℕ} 0 1 = only_reached p in absurd (omega arith)

-- nodes 0 and 1 read each other
self_through_another : LiesOnCycle ((1 ∷ []) ∷ (0 ∷ []) ∷ []) 0
self_through_another = longer (0, omega arith, refl) (step (0, omega arith, refl))
