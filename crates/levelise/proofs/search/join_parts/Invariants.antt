use Rattle.std.proofs.Common.{ℕ, ◌≤◌, length, Contains, vec_len}
use Rattle.levelise.specs.Search.{Rises}
use Rattle.levelise.proofs.search.join_parts.Given as goal

abbrev pub invariant-loop-start : goal.invariant-loop-start
invariant-loop-start l = record {
  rises : Rises l.starts.items;
  kept : (s : ℕ) → Contains l.initial.starts.items s → s ≤ l.place → Contains l.starts.items s;
  only : (s : ℕ) → Contains l.starts.items s → Contains l.initial.starts.items s;
  fewer : length l.starts.items ≤ length l.initial.starts.items;
}

abbrev pub decreases-loop-start : goal.decreases-loop-start
decreases-loop-start l = vec_len l.starts
