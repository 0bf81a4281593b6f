use Rattle.std.proofs.Common.{sym, ap, ◌∙◌}
use Rattle.std.specs.List.{flat_map}
use Rattle.std.proofs.lemmas.Result.{err_from_is_err_and}
use Rattle.driver_check.specs.Written.{refused_names}
use Rattle.driver_check.proofs.Firsts.{first_stop}
use Rattle.driver_check.proofs.Opened.{parts_refused}
use Rattle.driver_check.proofs.written.+judge_target.Goals as goal

pub loop-part-init : goal.loop-part-init
loop-part-init t c =
    let f = refused_names c.args.vars.now c.args.within in
    ap f c.in-List.is ∙ parts_refused c.args.vars.now c.args.within c.in-List.parts ∙ sym (ap (flat_map f) c.as_slice-part-items.ensures)

pub returns-in_err-judge_target-in-List : goal.returns-in_err-judge_target-in-List
returns-in_err-judge_target-in-List t c =
    let p = err_from_is_err_and c.from_residual.result c.from_residual.ensures.1 in
    rw (p.1, p.2) (first_stop (refused_names c.args.vars.now c.args.within) c.as_slice-part-items.result.now c.loop-part.part-index _ c.part-item.result _ c.loop-part-test.true c.part-item.is c.in_err-judge_target-in-List.ensures c.loop-part.invariant)
