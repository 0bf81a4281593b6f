use Rattle.std.proofs.Common.{◌≡◌, false, Some, Ok, length, ap, ◌∙◌}
use Rattle.bit_ops.specs.declared.value.Bits.{Bits}
use Rattle.const_eval.specs.Meaning.{Meaning, assigned}
use Rattle.width_rules.specs.Values.{bits_of}
use Rattle.net_ir.specs.declared.design.Role.TheVariants as role
use Rattle.elaborate.specs.Declaration as spec
use Rattle.elaborate.specs.Names.{constant_at}
use Rattle.elaborate.specs.code.Walking.{reached, seen_in}
use Rattle.elaborate.proofs.Declared.{refused, names_now, named_now, initial_at, initialised_at, initialised_refused, added}
use Rattle.elaborate.proofs.declaration.initialised.Goals as goal

pub returns-in_ok-push-in-Ok-clause-step : goal.returns-in_ok-push-in-Ok-clause-step
returns-in_ok-push-in-Ok-clause-step c =
    let w = c.args.walk.now in
    let name = c.args.name.now in
    let env = c.declare.new.self in
    let init = c.in-Ok.init in
    let seen = named_now w env name.name c.in_ok-number.number (length w.scope.vars) c.in_ok-number.ensures c.in_ok-declare.ensures.declared in
    initialised_at c.args.first.now c.args.extent name c.args.e.now (reached w) init
    (initial_at c.args.first.now (seen_in w) (names_now w env) name (length w.scope.vars) c.args.extent.width c.args.e.now init seen c.in-Ok.ensures)
    ∙ ap Ok (added w (names_now w env) c.push.new.self (spec.var_of role.Inner false c.args.extent name init) c.in_ok-var-in-Ok.var seen
    c.in_ok-var-in-Ok.ensures c.in_ok-push-in-Ok.ensures.ok)

pub returns-in-Err-clause-step : goal.returns-in-Err-clause-step
returns-in-Err-clause-step c =
    let w = c.args.walk.now in
    let name = c.args.name.now in
    let env = c.declare.new.self in
    let seen = named_now w env name.name c.in_ok-number.number (length w.scope.vars) c.in_ok-number.ensures c.in_ok-declare.ensures.declared in
    initialised_refused c.args.first.now c.args.extent name c.args.e.now (reached w) (names_now w env) c.in-Err.fault c.told_of.result seen
    (refused (λ (f : Bits) (m : Meaning). f ≡ bits_of c.args.extent.width (assigned (Some c.args.extent.width) false m)) c.in-Err.fault (constant_at (names_now w env) c.args.e.now) c.in-Err.ensures) c.told_of.ensures
