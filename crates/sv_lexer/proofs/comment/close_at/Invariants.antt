use Rattle.std.proofs.Common.{◌≡◌, ◌<◌, ◌+◌, ℕ, get_or}
use Rattle.sv_lexer.proofs.comment.close_at.Given as goal

abbrev pub invariant-loop-at : goal.invariant-loop-at
invariant-loop-at l = (k : ℕ) → k < l.at → get_or l.bytes k 0 ≡ 42 → get_or l.bytes (k + 1) 0 ≡ 47 → ⊥
