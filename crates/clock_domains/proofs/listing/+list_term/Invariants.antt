use Rattle.std.proofs.Common.{◌≡◌, ◌++◌, drop}
use Rattle.std.specs.List.{flat_map}
use Rattle.net_ir.specs.Value.{reads_of}
use Rattle.clock_domains.proofs.listing.+list_term.Given as goal

abbrev pub decreases-list_term : goal.decreases-list_term
decreases-list_term l = goal.size-list_term l

-- those that are listed and those of the rest are all
abbrev pub invariant-loop-arg : goal.invariant-loop-arg
invariant-loop-arg l = l.reads.items ++ flat_map reads_of (drop l.arg-index l.arg-items) ≡ l.fn.reads.items ++ reads_of l.term
