use Rattle.std.proofs.Common.{◌≡◌, ℕ, ◌<◌, ◌≤◌, false}
use Rattle.std.specs.Prelude.{is_some, None, slice_index_or}
use Rattle.driver_check.proofs.driven.is_marked.Given as goal

-- no bit so far has a driver
abbrev pub invariant-loop-k : goal.invariant-loop-k
invariant-loop-k l = (j : ℕ) → l.fn.run.low ≤ j → j < l.k → is_some (slice_index_or l.row j None) ≡ false
