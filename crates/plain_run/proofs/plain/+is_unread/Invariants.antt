use Rattle.std.proofs.Common.{◌≡◌, drop}
use Rattle.std.specs.List.{flat_map}
use Rattle.net_ir.specs.Value.{reads_of}
use Rattle.plain_run.specs.code.Turns.{are_clear}
use Rattle.plain_run.proofs.plain.+is_unread.Given as goal

abbrev pub decreases-is_unread : goal.decreases-is_unread
decreases-is_unread l = goal.size-is_unread l

-- the rest of the operands decides
abbrev pub invariant-loop-arg : goal.invariant-loop-arg
invariant-loop-arg l = are_clear l.marks (flat_map reads_of (drop l.arg-index l.arg-items)) ≡ are_clear l.marks (reads_of l.term)
