use Rattle.std.proofs.Common.{sym, ap, ◌∙◌}
use Rattle.std.specs.List.{flat_map}
use Rattle.net_ir.specs.Value.{reads_of}
use Rattle.net_ir.specs.Marks.{is_clear}
use Rattle.plain_run.specs.code.Turns.{are_clear}
use Rattle.plain_run.proofs.Marking.{reads_apply, all_more, all_fails}
use Rattle.plain_run.proofs.plain.+is_unread.Goals as goal

pub loop-arg-init : goal.loop-arg-init
loop-arg-init t c =
    ap (λ xs. are_clear c.args.marks.now (flat_map reads_of xs)) c.as_slice-arg-items.ensures
    ∙ sym (ap (are_clear c.args.marks.now) (ap reads_of c.in-Apply.is ∙ reads_apply c.in-Apply.op c.in-Apply.width c.in-Apply.lo c.in-Apply.args))

pub loop-arg-preserved : goal.loop-arg-preserved
loop-arg-preserved t c =
    all_more (λ x. is_clear c.args.marks.now x) reads_of c.as_slice-arg-items.result.now c.loop-arg.arg-index c.arg-item.result _
    c.loop-arg-test.true c.arg-item.is (sym c.is_unread-in-loop-arg.ensures ∙ c.if-not-is_unread.false) c.loop-arg.invariant

pub returns-then-not-is_unread : goal.returns-then-not-is_unread
returns-then-not-is_unread t c =
    all_fails (λ x. is_clear c.args.marks.now x) reads_of c.as_slice-arg-items.result.now c.loop-arg.arg-index c.arg-item.result _
    c.loop-arg-test.true c.arg-item.is (sym c.is_unread-in-loop-arg.ensures ∙ c.if-not-is_unread.true) c.loop-arg.invariant
