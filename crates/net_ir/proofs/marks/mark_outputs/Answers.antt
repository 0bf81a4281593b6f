use Rattle.net_ir.specs.declared.design.Output.{Output}
use Rattle.net_ir.specs.Drive.{joined_reads}
use Rattle.net_ir.proofs.Marking.{mark_more}
use Rattle.net_ir.proofs.marks.mark_outputs.Goals as goal

pub loop-output-preserved : goal.loop-output-preserved
loop-output-preserved c =
    mark_more (λ (o : Output). joined_reads o.target) c.args.outputs.now c.loop-output.output-index c.output-item.result c.loop-output.marks.items c.mark_joined.new.marks.items _ c.loop-output-test.true c.output-item.is c.mark_joined.ensures c.loop-output.invariant
