use Rattle.std.proofs.Common.{◌≡◌, None, Err, ap, sym, ◌∙◌}
use Rattle.std.proofs.lemmas.Result.{err_from_is_err_and}
use Rattle.elaborate.specs.declared.extent.Extent.{Extent}
use Rattle.elaborate.specs.Refusals.{fresh}
use Rattle.elaborate.specs.Extent.{is_net, extent_of}
use Rattle.elaborate.specs.Declaration as spec
use Rattle.elaborate.specs.code.Walking.{reached, integers_of}
use Rattle.elaborate.proofs.Declared.{same_step, refused_step, found, free, refused, declared_at, declared_refused, none_valued, net_valued}
use Rattle.elaborate.proofs.declaration.declared_name.Goals as goal

pub returns-in_err-extent-clause-step : goal.returns-in_err-extent-clause-step
returns-in_err-extent-clause-step c =
    let w = c.args.walk.now in
    let d = c.args.decl.now in
    let span = integers_of c.args.span in
    let fault = c.in_err-extent.field-0.0 in
    let unused = free tt (fresh (reached w).names d.name) c.in_ok-fresh.ensures in
    let end = err_from_is_err_and c.from_residual-in_err-extent.result c.from_residual-in_err-extent.ensures.1 in
    refused_step (spec.declared_name c.args.first.now c.args.shape.now span d) w w c.from_residual-in_err-extent.result fault (end.1 ∙ ap Err end.2)
    (declared_refused c.args.first.now c.args.shape.now span d (reached w) fault unused
    (refused (λ (f : Extent) (x : Extent). f ≡ x) fault (extent_of c.args.first.now c.args.shape.now span) c.in_err-extent.ensures.extent))

pub returns-in-None-clause-step : goal.returns-in-None-clause-step
returns-in-None-clause-step c =
    let w = c.args.walk.now in
    let d = c.args.decl.now in
    let span = integers_of c.args.span in
    let x = c.in_ok-extent.extent in
    let shape = c.args.shape.now in
    let unused = free tt (fresh (reached w).names d.name) c.in_ok-fresh.ensures in
    let extent = found (λ f. f) x (extent_of c.args.first.now shape span) c.in_ok-extent.ensures.extent in
    let wire : c.is_net-wire.result ≡ is_net shape.words = c.is_net-wire.ensures ∙ ap is_net c.as_slice.ensures in
    same_step (spec.valued d.name c.is_net-wire.result x d.name None) (spec.declared_name c.args.first.now shape span d) w w c.plain_name.new.walk c.plain_name.result
    (declared_at c.args.first.now shape span d (reached w) x unused extent
    ∙ none_valued c.args.first.now (is_net shape.words) x d.name d.value (reached w) c.in-None.is
    ∙ ap (λ b. spec.valued d.name b x d.name None (reached w)) (sym wire))
    c.plain_name.ensures.step

pub returns-in-Some-clause-step : goal.returns-in-Some-clause-step
returns-in-Some-clause-step c =
    let w = c.args.walk.now in
    let d = c.args.decl.now in
    let span = integers_of c.args.span in
    let x = c.in_ok-extent.extent in
    let shape = c.args.shape.now in
    let e = c.in-Some.e in
    let unused = free tt (fresh (reached w).names d.name) c.in_ok-fresh.ensures in
    let extent = found (λ f. f) x (extent_of c.args.first.now shape span) c.in_ok-extent.ensures.extent in
    let wire : c.is_net-wire.result ≡ is_net shape.words = c.is_net-wire.ensures ∙ ap is_net c.as_slice.ensures in
    same_step (spec.driven c.args.first.now x d.name e) (spec.declared_name c.args.first.now shape span d) w w c.driven.new.walk c.driven.result
    (declared_at c.args.first.now shape span d (reached w) x unused extent
    ∙ net_valued c.args.first.now (is_net shape.words) x d.name d.value e (reached w) c.in-Some.is (sym wire ∙ c.if-wire.true))
    c.driven.ensures.step
