use Rattle.std.proofs.Common.{sym, ap, ◌∙◌}
use Rattle.std.specs.List.{flat_map}
use Rattle.net_ir.specs.Value.{reads_of}
use Rattle.net_ir.specs.Marks.{mark_all}
use Rattle.net_ir.proofs.Marking.{reads_pick, reads_apply, mark_append, mark_more}
use Rattle.net_ir.proofs.marks.+mark_term.Goals as goal

pub loop-arg-init : goal.loop-arg-init
loop-arg-init t c =
    ap (λ xs. mark_all (flat_map reads_of xs) c.args.marks.now.items) c.as_slice-arg-items.ensures
    ∙ sym (ap (λ reads. mark_all reads c.args.marks.now.items) (ap reads_of c.in-Apply.is ∙ reads_apply c.in-Apply.op c.in-Apply.width c.in-Apply.lo c.in-Apply.args))

pub loop-arg-preserved : goal.loop-arg-preserved
loop-arg-preserved t c =
    mark_more reads_of c.as_slice-arg-items.result.now c.loop-arg.arg-index c.arg-item.result c.loop-arg.marks.items c.mark_term-in-loop-arg.new.marks.items _ c.loop-arg-test.true c.arg-item.is c.mark_term-in-loop-arg.ensures c.loop-arg.invariant

pub returns-in-Pick : goal.returns-in-Pick
returns-in-Pick t c =
    let at = c.in-Pick.at in
    c.mark_term-in-Pick.ensures
    ∙ ap (λ x. mark_all (reads_of x) c.mark_term.new.marks.items) c.get-in-Pick.ensures
    ∙ ap (mark_all (reads_of at)) (c.mark_term.ensures ∙ ap (λ x. mark_all (reads_of x) c.args.marks.now.items) c.get.ensures)
    ∙ sym (mark_append (reads_of c.in-Pick.base) (reads_of at) c.args.marks.now.items)
    ∙ ap (λ reads. mark_all reads c.args.marks.now.items) (sym (ap reads_of c.in-Pick.is ∙ reads_pick c.in-Pick.base c.in-Pick.low at c.in-Pick.at_signed c.in-Pick.down c.in-Pick.width))
