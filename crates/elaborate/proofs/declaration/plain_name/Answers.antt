use Rattle.std.proofs.Common.{sym, ap, None, Ok}
use Rattle.elaborate.specs.Reached.{with_var}
use Rattle.elaborate.specs.Declaration as spec
use Rattle.elaborate.specs.code.Walking.{reached}
use Rattle.net_ir.specs.declared.design.Role.TheVariants as role
use Rattle.elaborate.proofs.Declared.{same_step, plain_var}
use Rattle.elaborate.proofs.declaration.plain_name.Goals as goal

pub returns-clause-step : goal.returns-clause-step
returns-clause-step c =
    let is = plain_var role.Inner c.args.wire c.args.extent c.args.name.now c.zero-init.result c.in_ok-var.var c.zero-init.ensures.width c.zero-init.ensures.word
    c.in_ok-var.ensures in
    same_step (λ r. Ok (with_var c.in_ok-var.var r)) (spec.valued c.args.name.now c.args.wire c.args.extent c.args.name.now None)
    c.args.walk.now c.args.walk.now c.declare.new.self c.declare.result
    (ap (λ v. Ok (with_var v (reached c.args.walk.now))) (sym is)) c.declare.ensures.step
