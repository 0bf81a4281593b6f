use Rattle.std.proofs.Common.{◌≡◌, ◌++◌, drop}
use Rattle.std.specs.List.{flat_map}
use Rattle.net_ir.specs.Target.{target_reads}
use Rattle.clock_domains.proofs.listing.+list_target.Given as goal

abbrev pub decreases-list_target : goal.decreases-list_target
decreases-list_target l = goal.size-list_target l

-- those that are listed and those of the rest are all
abbrev pub invariant-loop-part : goal.invariant-loop-part
invariant-loop-part l = l.reads.items ++ flat_map target_reads (drop l.part-index l.part-items) ≡ l.fn.reads.items ++ target_reads l.target
