use Rattle.net_ir.specs.declared.design.Input.{Input}
use Rattle.net_ir.specs.Value.{reads_of}
use Rattle.net_ir.proofs.Marking.{mark_more}
use Rattle.net_ir.proofs.marks.mark_inputs.Goals as goal

pub loop-input-preserved : goal.loop-input-preserved
loop-input-preserved c =
    mark_more (λ (i : Input). reads_of i.value) c.args.inputs.now c.loop-input.input-index c.input-item.result c.loop-input.marks.items c.mark_term.new.marks.items _ c.loop-input-test.true c.input-item.is c.mark_term.ensures c.loop-input.invariant
