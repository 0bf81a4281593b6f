use Rattle.std.proofs.Common.{◌≡◌, ℕ, ◌<◌, List, get_or}
use Rattle.linked_units.proofs.joining.are_same_rows.Given as goal

abbrev pub invariant-loop-k : goal.invariant-loop-k
invariant-loop-k l = (i : ℕ) (d : List ℕ) → i < l.k → get_or l.a i d ≡ get_or l.b i d
