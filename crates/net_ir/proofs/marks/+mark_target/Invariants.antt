use Rattle.std.proofs.Common.{◌≡◌, drop}
use Rattle.std.specs.List.{flat_map}
use Rattle.net_ir.specs.Target.{target_reads}
use Rattle.net_ir.specs.Marks.{mark_all}
use Rattle.net_ir.proofs.marks.+mark_target.Given as goal

abbrev pub decreases-mark_target : goal.decreases-mark_target
decreases-mark_target l = goal.size-mark_target l

-- the rest of the marks gives all of them
abbrev pub invariant-loop-part : goal.invariant-loop-part
invariant-loop-part l = mark_all (flat_map target_reads (drop l.part-index l.part-items)) l.marks.items ≡ mark_all (target_reads l.target) l.fn.marks.items
