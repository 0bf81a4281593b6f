use Rattle.std.proofs.Common.{◌≡◌, ℕ, List, ◌++◌, map, take, get_or}
use Rattle.code_check.proofs.reads.add_kid.Given as goal

abbrev pub invariant-loop-row : goal.invariant-loop-row
invariant-loop-row l = l.rows ≡ l.fn.rows ++ map (λ (row : List ℕ). map (λ p. get_or l.kid.ins p 0) row) (take l.row-index l.kid.summary.rows)
