use Rattle.std.proofs.Common.{◌+◌, map, drop, ap, ◌∙◌}
use Rattle.std.proofs.lemmas.Result.{err_from_is_err_and}
use Rattle.elaborate.specs.Targets as spec
use Rattle.elaborate.specs.code.Walking.{seen_in}
use Rattle.elaborate.proofs.Parts.{in_front, nothing_found, one_more, one_refused, all_found}
use Rattle.elaborate.proofs.target.+targets.Goals as goal

pub targets-loop-part-init : goal.targets-loop-part-init
targets-loop-part-init t c = nothing_found c.new-found.result _ c.new-found.ensures

pub targets-returns-in_err-target : goal.targets-returns-in_err-target
targets-returns-in_err-target t c =
    let f = spec.target_of c.args.needed (seen_in c.args.walk.now) c.args.walk.now.scope.vars in
    let p = err_from_is_err_and c.from_residual.result c.from_residual.ensures.1 in
    rw (p.1, p.2) (one_refused f c.args.parts.now c.loop-part.part-index c.part-item.result c.in_err-target.field-0.0 c.loop-part.found _
    c.loop-part-test.true c.part-item.is c.in_err-target.ensures c.loop-part.invariant)

pub targets-loop-part-preserved : goal.targets-loop-part-preserved
targets-loop-part-preserved t c =
    let f = spec.target_of c.args.needed (seen_in c.args.walk.now) c.args.walk.now.scope.vars in
    ap (λ found. in_front found (spec.all_of (map f (drop (c.loop-part.part-index + 1) c.args.parts.now)))) c.in_ok-push.ensures.ok
    ∙ one_more f c.args.parts.now c.loop-part.part-index c.part-item.result c.in_ok-target.field-0 c.loop-part.found _
    c.loop-part-test.true c.part-item.is c.in_ok-target.ensures c.loop-part.invariant

pub targets-returns : goal.targets-returns
targets-returns t c =
    let f = spec.target_of c.args.needed (seen_in c.args.walk.now) c.args.walk.now.scope.vars in
    all_found f c.args.parts.now c.loop-part.part-index c.loop-part.found _ c.loop-part-test.false c.loop-part.invariant
