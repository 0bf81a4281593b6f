use Rattle.std.proofs.Common.{◌≡◌, ℕ, ◌<◌, ◌≤◌, length, get_or}
use Rattle.std.specs.Int.RustNames.{bit_or}
use Rattle.code_check.proofs.sets.join.Given as goal

abbrev pub invariant-loop-k : goal.invariant-loop-k
invariant-loop-k l = record {
  size : length l.row.items ≡ length l.fn.row.items;
  done : (j : ℕ) → j < l.k → get_or l.row.items j 0 ≡ bit_or (get_or l.fn.row.items j 0) (get_or l.more j 0);
  rest : (j : ℕ) → l.k ≤ j → get_or l.row.items j 0 ≡ get_or l.fn.row.items j 0;
}
