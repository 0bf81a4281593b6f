use Rattle.std.proofs.Common.{◌≡◌, drop}
use Rattle.std.specs.List.{flat_map}
use Rattle.net_ir.specs.Statement.{statement_reads, reads_of_arm}
use Rattle.net_ir.specs.Marks.{mark_all}
use Rattle.net_ir.proofs.marks.+marking.Given as goal

abbrev pub decreases-mark_statement : goal.decreases-mark_statement
decreases-mark_statement l = goal.size-mark_statement l

abbrev pub decreases-mark_arm : goal.decreases-mark_arm
decreases-mark_arm l = goal.size-mark_arm l

-- the rest of the marks gives all of them
abbrev pub invariant-mark_statement-loop-part : goal.invariant-mark_statement-loop-part
invariant-mark_statement-loop-part l =
    mark_all (flat_map statement_reads (drop l.part-index l.part-items)) l.marks.items ≡ mark_all (statement_reads l.statement) l.fn.marks.items

abbrev pub invariant-mark_statement-loop-arm : goal.invariant-mark_statement-loop-arm
invariant-mark_statement-loop-arm l =
    mark_all (flat_map reads_of_arm (drop l.arm-index l.arm-items)) l.marks.items ≡ mark_all (statement_reads l.statement) l.fn.marks.items
