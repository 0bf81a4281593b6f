use Rattle.std.proofs.Common.{◌≡◌, Bool, Ok, Err, Result, length, ap, ◌∙◌, sym}
use Rattle.std.proofs.lemmas.Result.{err_from_is_err_and}
use Rattle.sv_base.specs.declared.refusal.Refusal.{Refusal}
use Rattle.const_eval.specs.Expressions.{◌>>=◌}
use Rattle.net_ir.specs.declared.term.Term.{Term}
use Rattle.net_ir.specs.declared.design.Driver.TheVariants.{Assign}
use Rattle.elaborate.specs.Reached.{Reached, with_driver, counted}
use Rattle.elaborate.specs.Declaration as spec
use Rattle.elaborate.specs.code.Walking.{reached}
use Rattle.elaborate.proofs.Declared.{same_step, refused_step, refused, refused_behind, refused_alike, value_at, driven_behind, driven_at, driven_refused}
use Rattle.elaborate.proofs.declaration.driven.Goals as goal

pub returns-in_err-value-clause-step : goal.returns-in_err-value-clause-step
returns-in_err-value-clause-step c =
    let w = c.args.walk.now in
    let s = reached c.plain_name.new.walk in
    let fault = c.in_err-value.field-0.0 in
    let end = err_from_is_err_and c.from_residual-in_err-value.result c.from_residual-in_err-value.ensures.1 in
    refused_step (spec.driven c.args.first.now c.args.extent c.args.name.now c.args.e.now) w c.plain_name.new.walk c.from_residual-in_err-value.result fault
    (end.1 ∙ ap Err end.2)
    (driven_refused c.args.first.now c.args.extent c.args.name.now c.args.e.now (reached w) s fault c.in_ok-plain_name.ensures.step
    (refused (λ (f : Term) (v : Term × Bool). f ≡ v.0) fault (value_at c.args.first.now c.args.extent.width c.args.e.now s) c.in_err-value.ensures))

pub returns-in_err-count-clause-step : goal.returns-in_err-count-clause-step
returns-in_err-count-clause-step c =
    let w = c.args.walk.now in
    let s = reached c.plain_name.new.walk in
    let name = c.args.name.now in
    let value = c.in_ok-value.value in
    let number = length w.scope.vars in
    let fault = c.in_err-count.field-0.0 in
    let end = err_from_is_err_and c.from_residual-in_err-count.result c.from_residual-in_err-count.ensures.1 in
    refused_step (spec.driven c.args.first.now c.args.extent name c.args.e.now) w c.count.new.self c.from_residual-in_err-count.result fault
    (end.1 ∙ ap Err end.2)
    (refused_alike _ (driven_behind name number s value) fault
    (driven_at c.args.first.now c.args.extent name c.args.e.now (reached w) s value c.in_ok-plain_name.ensures.step c.in_ok-value.ensures)
    (refused_behind (counted name.place s) (λ t. Ok (with_driver (Assign (spec.whole_target name number) value name.place) t)) fault c.in_err-count.ensures.step))

pub returns-clause-step : goal.returns-clause-step
returns-clause-step c =
    let w = c.args.walk.now in
    let s = reached c.plain_name.new.walk in
    let t = reached c.count.new.self in
    let name = c.args.name.now in
    let value = c.in_ok-value.value in
    let number = length w.scope.vars in
    let target = c.in_ok-target.target in
    same_step (λ r. Ok (with_driver (Assign target value name.place) r)) (spec.driven c.args.first.now c.args.extent name c.args.e.now) c.count.new.self w
    c.drive.new.self c.drive.result
    (driven_at c.args.first.now c.args.extent name c.args.e.now (reached w) s value c.in_ok-plain_name.ensures.step c.in_ok-value.ensures
    ∙ ap (λ (j : Result Reached Refusal). j >>= λ r. Ok (with_driver (Assign (spec.whole_target name number) value name.place) r)) c.in_ok-count.ensures.step
    ∙ ap (λ x. Ok (with_driver (Assign x value name.place) t)) (sym (c.in_ok-target.ensures ∙ ap (spec.whole_target name) c.in_ok-number.ensures)))
    c.drive.ensures.step
