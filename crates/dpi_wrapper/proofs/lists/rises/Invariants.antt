use Rattle.std.proofs.Common.{ℕ, ◌<◌, get_or}
use Rattle.dpi_wrapper.proofs.lists.rises.Given as goal

abbrev pub invariant-loop-k : goal.invariant-loop-k
invariant-loop-k l = (i j : ℕ) → i < j → j < l.k → get_or l.row i 0 < get_or l.row j 0
