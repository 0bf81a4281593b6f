use Rattle.std.proofs.Common.{ap, ◌∙◌}
use Rattle.net_ir.specs.Marks.{mark_all}
use Rattle.net_ir.specs.code.Classing.{inputs_read, outputs_read}
use Rattle.net_ir.proofs.Marking.{mark_both}
use Rattle.net_ir.proofs.marks.mark_instance.Goals as goal

pub returns : goal.returns
returns c =
    let made = c.args.instance.now in
    mark_both (inputs_read made.inputs) (outputs_read made.outputs) c.args.marks.now.items c.mark_inputs.new.marks.items c.mark_outputs.new.marks.items
    (c.mark_inputs.ensures ∙ ap (λ xs. mark_all (inputs_read xs) c.args.marks.now.items) c.as_slice.ensures)
    (c.mark_outputs.ensures ∙ ap (λ xs. mark_all (outputs_read xs) c.mark_inputs.new.marks.items) c.as_slice-2.ensures)
