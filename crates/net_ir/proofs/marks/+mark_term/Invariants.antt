use Rattle.std.proofs.Common.{◌≡◌, drop}
use Rattle.std.specs.List.{flat_map}
use Rattle.net_ir.specs.Value.{reads_of}
use Rattle.net_ir.specs.Marks.{mark_all}
use Rattle.net_ir.proofs.marks.+mark_term.Given as goal

abbrev pub decreases-mark_term : goal.decreases-mark_term
decreases-mark_term l = goal.size-mark_term l

-- the rest of the marks gives all of them
abbrev pub invariant-loop-arg : goal.invariant-loop-arg
invariant-loop-arg l = mark_all (flat_map reads_of (drop l.arg-index l.arg-items)) l.marks.items ≡ mark_all (reads_of l.term) l.fn.marks.items
