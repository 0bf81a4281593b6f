-- Writes of bits that are there, and valuations that are alike.
use Rattle.std.specs.Prelude.{◌≡◌, ℕ, ◌<◌, List, length, slice_index}
use Rattle.std.specs.List.{AllByRecursion}
use Rattle.net_ir.specs.Target.{Write}

-- a write gives a bit to a place that its variable has, where the variables have these widths
pub record IsWithin (ws : List ℕ) (w : Write) : Type 0 where
  pub there : w.var < length ws
  pub place : w.place < slice_index ws w.var
  pub bit : w.bit < 2

abbrev pub AreWithin : List ℕ → List Write → Type 0
AreWithin ws = AllByRecursion (IsWithin ws)

-- two valuations have the same words for these variables
abbrev pub AgreeOn : List ℕ → List ℕ → List ℕ → Type 0
AgreeOn xs u v = AllByRecursion (λ x. slice_index u x ≡ slice_index v x) xs
