-- The least number that passes a test.
use Rattle.std.specs.Prelude.{◌≡◌, ◌⊎◌, ℕ, zero, suc, ◌+◌, ◌-◌, ◌^◌, ◌<◌, ◌≤◌, Bool, true, false, nat_le, if◌then◌else◌}
use Rattle.std.proofs.Common.{refl, ap, ◌∙◌, inl, inr, arith}
use Rattle.std.proofs.lemmas.Bool.{cases_lt, leb-true, leb-false}
use Rattle.bit_ops.specs.declared.value.TheConstants.{MAX_WIDTH}
use Rattle.const_eval.specs.Operators.{least_from, logarithm}

-- one number more that does not pass
pub one_past : (test : ℕ → Bool) (k n : ℕ) → k < n → test k ≡ false → least_from test (k + 1) (n - (k + 1)) ≡ least_from test k (n - k)
unfolding least_from
one_past test k n h e = let more : n - k ≡ suc (n - (k + 1)) = omega arith in rw (more, e) refl

-- one that passes
pub passes_here : (test : ℕ → Bool) (k n : ℕ) → k < n → test k ≡ true → least_from test k (n - k) ≡ k
unfolding least_from
passes_here test k n h e = let more : n - k ≡ suc (n - (k + 1)) = omega arith in rw (more, e) refl

-- none of them
pub none_left : (test : ℕ → Bool) (k : ℕ) → least_from test k 0 ≡ k
unfolding least_from
none_left test k = refl

-- it passes, or is behind them all
least_passes : (test : ℕ → Bool) (k n : ℕ) → (test (least_from test k n) ≡ true) ⊎ (least_from test k n ≡ k + n)
unfolding least_from
least_passes test k zero = inr (omega arith)
least_passes test k (suc n) = go (test k) refl (least_passes test (k + 1) n)
  where
    go : (b : Bool) → test k ≡ b → (test (least_from test (k + 1) n) ≡ true) ⊎ (least_from test (k + 1) n ≡ k + 1 + n)
        → (test (if b then k else least_from test (k + 1) n) ≡ true) ⊎ ((if b then k else least_from test (k + 1) n) ≡ k + suc n)
    go true e h = inl e
    go false e (inl p) = inl p
    go false e (inr q) = inr (omega arith)

-- it is among them, or behind them all
pub least_within : (test : ℕ → Bool) (k n : ℕ) → (k ≤ least_from test k n) × (least_from test k n ≤ k + n)
unfolding least_from
least_within test k zero = (omega arith, omega arith)
least_within test k (suc n) = go (test k) (least_within test (k + 1) n)
  where
    go : (b : Bool) → (k + 1 ≤ least_from test (k + 1) n) × (least_from test (k + 1) n ≤ k + 1 + n)
        → (k ≤ (if b then k else least_from test (k + 1) n)) × ((if b then k else least_from test (k + 1) n) ≤ k + suc n)
    go true h = (omega arith, omega arith)
    go false h = (omega (arith, h.0), omega (arith, h.1))

-- none before it passes
least_first : (test : ℕ → Bool) (k n j : ℕ) → k ≤ j → j < least_from test k n → test j ≡ false
unfolding least_from
least_first test k zero j h f = absurd (omega arith)
least_first test k (suc n) j h f = go (test k) refl f (λ more less. least_first test (k + 1) n j more less)
  where
    go : (b : Bool) → test k ≡ b → j < (if b then k else least_from test (k + 1) n) → (k + 1 ≤ j → j < least_from test (k + 1) n → test j ≡ false)
        → test j ≡ false
    go true e f later = absurd (omega arith)
    go false e f later = elim (cases_lt k j) [
      | inl more ↦ later (omega arith) f
      | inr same ↦ (let here : j ≡ k = omega arith in ap test here ∙ e)
    ]

-- the logarithm is the least such number
pub logarithm_reaches : (a : ℕ) → a ≤ 2 ^ MAX_WIDTH → a ≤ 2 ^ logarithm a
logarithm_reaches a h = elim (least_passes (λ k. nat_le a (2 ^ k)) 0 MAX_WIDTH) [
  | inl p ↦ leb-true a (2 ^ logarithm a) p
  | inr q ↦ (let same : logarithm a ≡ MAX_WIDTH = q in rw same h)
]

pub logarithm_least : (a j : ℕ) → a ≤ 2 ^ j → logarithm a ≤ j
logarithm_least a j h = elim (cases_lt j (logarithm a)) [
  | inl less ↦ (let past = leb-false a (2 ^ j) (least_first (λ k. nat_le a (2 ^ k)) 0 MAX_WIDTH j (omega arith) less) in absurd (omega arith))
  | inr least ↦ least
]
