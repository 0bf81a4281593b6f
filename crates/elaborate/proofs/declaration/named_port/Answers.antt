use Rattle.std.proofs.Common.{◌≡◌, ◌∙◌, ◌<◌, arith, ap, Ok, Err, true, length}
use Rattle.std.specs.Prelude.{nat_lt}
use Rattle.std.proofs.lemmas.Bool.{lt-ltb}
use Rattle.std.proofs.lemmas.Result.{err_from_is_err_and}
use Rattle.elaborate.specs.declared.limits.TheConstants.{PORT_LIMIT}
use Rattle.elaborate.specs.declared.extent.Extent.{Extent}
use Rattle.module_header.specs.Header.{port_of}
use Rattle.elaborate.specs.Reached.{with_var}
use Rattle.elaborate.specs.Refusals.{fresh}
use Rattle.elaborate.specs.Extent.{extent_of}
use Rattle.elaborate.specs.Declaration as spec
use Rattle.elaborate.specs.code.Walking.{reached, seen_in, integers_of}
use Rattle.elaborate.proofs.Declared.{same_step, refused_step, found, free, refused, port_at, port_var, port_refused, plain_var}
use Rattle.elaborate.proofs.declaration.named_port.Goals as goal

pub returns-in_err-extent-clause-step : goal.returns-in_err-extent-clause-step
returns-in_err-extent-clause-step c =
    let p = port_of c.args.port in
    let free = free tt (fresh (seen_in c.args.walk.now) p.name) c.in_ok-fresh.ensures in
    let end = err_from_is_err_and c.from_residual-in_err-extent.result c.from_residual-in_err-extent.ensures.1 in
    refused_step (spec.named_port p (integers_of c.args.span)) c.args.walk.now c.args.walk.now c.from_residual-in_err-extent.result
    c.in_err-extent.field-0.0 (end.1 ∙ ap Err end.2)
    (port_refused p (integers_of c.args.span) (reached c.args.walk.now) c.in_err-extent.field-0.0 free
    (refused (λ (f : Extent) (x : Extent). f ≡ x) c.in_err-extent.field-0.0 (extent_of p.name p.shape (integers_of c.args.span)) c.in_err-extent.ensures.extent))

pub returns-clause-step : goal.returns-clause-step
returns-clause-step c =
    let p = port_of c.args.port in
    let r = reached c.args.walk.now in
    let free = free tt (fresh r.names p.name) c.in_ok-fresh.ensures in
    let x = c.in_ok-extent.extent in
    let extent = found (λ f. f) x (extent_of p.name p.shape (integers_of c.args.span)) c.in_ok-extent.ensures.extent in
    let few : length r.vars < PORT_LIMIT = omega (arith, c.len.ensures) in
    let room : nat_lt (length r.vars) PORT_LIMIT ≡ true = lt-ltb (length r.vars) PORT_LIMIT few in
    let wire : c.is_net_port-wire.result ≡ spec.is_net_port p.shape.words = c.is_net_port-wire.ensures ∙ ap spec.is_net_port c.as_slice.ensures in
    let is : c.in_ok-var.var ≡ spec.var_of (spec.role_of p.direction) (spec.is_net_port p.shape.words) x p.name c.zero-init.result =
    c.in_ok-var.ensures
    ∙ ap (λ q. spec.var_of q c.is_net_port-wire.result x p.name c.zero-init.result) c.role_of-role.ensures
    ∙ ap (λ b. spec.var_of (spec.role_of p.direction) b x p.name c.zero-init.result) wire in
    let plain = plain_var (spec.role_of p.direction) (spec.is_net_port p.shape.words) x p.name c.zero-init.result c.in_ok-var.var
    c.zero-init.ensures.width c.zero-init.ensures.word is in
    same_step (λ r. Ok (with_var c.in_ok-var.var r)) (spec.named_port p (integers_of c.args.span))
    c.args.walk.now c.args.walk.now c.declare.new.self c.declare.result
    (port_at p (integers_of c.args.span) r x free extent ∙ port_var p r x c.in_ok-var.var room plain) c.declare.ensures.step
