-- What an order of settling has to keep.
use Rattle.std.specs.Prelude.{ℕ, ◌<◌, ◌^◌}

-- A closure of an order may be asked for any sweep and any number of children that are left, at least one, and answers less than
-- that number. `may_ask` and `may_answer` are what it requires and ensures.
pub record Picks (may_ask : ℕ → ℕ → Type 0) (may_answer : ℕ → ℕ → ℕ → Type 0) : Type 0 where
  pub asked : (sweep left : ℕ) → sweep < 2 ^ 32 → left < 2 ^ 32 → 0 < left → may_ask sweep left
  pub picks : (sweep left answer : ℕ) → sweep < 2 ^ 32 → left < 2 ^ 32 → 0 < left → may_answer sweep left answer → answer < left
