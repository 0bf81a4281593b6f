use Rattle.std.proofs.Common.{sym, ap, ◌∙◌}
use Rattle.std.specs.List.{flat_map}
use Rattle.net_ir.specs.Target.{target_reads}
use Rattle.net_ir.specs.Marks.{mark_all}
use Rattle.net_ir.proofs.Marking.{parts_reads, mark_more}
use Rattle.net_ir.proofs.marks.+mark_target.Goals as goal

pub loop-part-init : goal.loop-part-init
loop-part-init t c =
    ap (λ xs. mark_all (flat_map target_reads xs) c.args.marks.now.items) c.as_slice-part-items.ensures
    ∙ sym (ap (λ reads. mark_all reads c.args.marks.now.items) (ap target_reads c.in-List.is ∙ parts_reads c.in-List.parts))

pub loop-part-preserved : goal.loop-part-preserved
loop-part-preserved t c =
    mark_more target_reads c.as_slice-part-items.result.now c.loop-part.part-index c.part-item.result c.loop-part.marks.items c.mark_target.new.marks.items _ c.loop-part-test.true c.part-item.is c.mark_target.ensures c.loop-part.invariant
