use Rattle.std.proofs.Common.{sym, ap, ◌∙◌}
use Rattle.std.specs.List.{flat_map}
use Rattle.std.proofs.lemmas.Result.{err_from_is_err_and}
use Rattle.driver_check.specs.Written.{refused_assigns, refused_in_arm}
use Rattle.driver_check.proofs.Firsts.{first_stop}
use Rattle.driver_check.proofs.Opened.{block_refused, case_refused}
use Rattle.driver_check.proofs.written.+judging.Goals as goal

pub judge_statement-loop-part-init : goal.judge_statement-loop-part-init
judge_statement-loop-part-init t c =
    let f = refused_assigns c.args.vars.now c.args.within in
    ap f c.in-Block.is ∙ block_refused c.args.vars.now c.args.within c.in-Block.parts ∙ sym (ap (flat_map f) c.as_slice-part-items.ensures)

pub judge_statement-loop-arm-init : goal.judge_statement-loop-arm-init
judge_statement-loop-arm-init t c =
    ap (refused_assigns c.args.vars.now c.args.within) c.in-Case.is ∙ case_refused c.args.vars.now c.args.within c.in-Case.field-0 c.in-Case.arms
    ∙ sym (ap (flat_map (refused_in_arm c.args.vars.now c.args.within)) c.as_slice-arm-items.ensures)

pub judge_statement-returns-in_err-judge_statement-in-Block : goal.judge_statement-returns-in_err-judge_statement-in-Block
judge_statement-returns-in_err-judge_statement-in-Block t c =
    let p = err_from_is_err_and c.from_residual.result c.from_residual.ensures.1 in
    rw (p.1, p.2) (first_stop (refused_assigns c.args.vars.now c.args.within) c.as_slice-part-items.result.now c.loop-part.part-index _ c.part-item.result _ c.loop-part-test.true c.part-item.is c.in_err-judge_statement-in-Block.ensures c.loop-part.invariant)

pub judge_statement-returns-in_err-judge_arm-in-Case : goal.judge_statement-returns-in_err-judge_arm-in-Case
judge_statement-returns-in_err-judge_arm-in-Case t c =
    let p = err_from_is_err_and c.from_residual-in_err-judge_arm-in-Case.result c.from_residual-in_err-judge_arm-in-Case.ensures.1 in
    rw (p.1, p.2) (first_stop (refused_in_arm c.args.vars.now c.args.within) c.as_slice-arm-items.result.now c.loop-arm.arm-index _ c.arm-item.result _ c.loop-arm-test.true c.arm-item.is c.in_err-judge_arm-in-Case.ensures c.loop-arm.invariant)
