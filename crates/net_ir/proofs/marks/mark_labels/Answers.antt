use Rattle.net_ir.specs.Value.{reads_of}
use Rattle.net_ir.proofs.Marking.{mark_more}
use Rattle.net_ir.proofs.marks.mark_labels.Goals as goal

pub loop-label-preserved : goal.loop-label-preserved
loop-label-preserved c =
    mark_more reads_of c.args.labels.now c.loop-label.label-index c.label-item.result c.loop-label.marks.items c.mark_term.new.marks.items _ c.loop-label-test.true c.label-item.is c.mark_term.ensures c.loop-label.invariant
