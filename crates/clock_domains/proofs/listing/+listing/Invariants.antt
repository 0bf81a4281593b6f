use Rattle.std.proofs.Common.{◌≡◌, ◌++◌, drop}
use Rattle.std.specs.List.{flat_map}
use Rattle.net_ir.specs.Statement.{statement_reads, reads_of_arm}
use Rattle.clock_domains.proofs.listing.+listing.Given as goal

abbrev pub decreases-list_statement : goal.decreases-list_statement
decreases-list_statement l = goal.size-list_statement l

abbrev pub decreases-list_arm : goal.decreases-list_arm
decreases-list_arm l = goal.size-list_arm l

-- those that are listed and those of the rest are all
abbrev pub invariant-list_statement-loop-part : goal.invariant-list_statement-loop-part
invariant-list_statement-loop-part l =
    l.reads.items ++ flat_map statement_reads (drop l.part-index l.part-items) ≡ l.fn.reads.items ++ statement_reads l.statement

abbrev pub invariant-list_statement-loop-arm : goal.invariant-list_statement-loop-arm
invariant-list_statement-loop-arm l =
    l.reads.items ++ flat_map reads_of_arm (drop l.arm-index l.arm-items) ≡ l.fn.reads.items ++ statement_reads l.statement
