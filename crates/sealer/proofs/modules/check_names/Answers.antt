use Rattle.std.proofs.Common.{◌≡◌, [], sym, ◌∙◌, subst, Some}
use Rattle.sv_base.specs.Faults.{IfRefused}
use Rattle.const_eval.specs.declared.env.Bound.TheVariants.{Variable}
use Rattle.sealer.specs.Design.{first_repeat}
use Rattle.sealer.proofs.Repeats.{name_new, name_again}
use Rattle.sealer.proofs.modules.check_names.Goals as goal

pub returns-then-is_some-clause-refused : goal.returns-then-is_some-clause-refused
returns-then-is_some-clause-refused c =
    subst (IfRefused (λ refusal. first_repeat [] c.args.modules.now ≡ Some refusal)) (sym c.in_ok-refused_at.ensures)
    (name_again c.loop-module.names c.args.modules.now c.loop-module.module-index c.module-item.result c.in_ok-before.before c.loop-module-test.true c.module-item.is c.in_ok-before.ensures.before
    (sym c.is_some.ensures ∙ c.if-is_some.true) c.loop-module.invariant)

pub loop-module-preserved : goal.loop-module-preserved
loop-module-preserved c =
    name_new c.loop-module.names c.declare.new.self c.args.modules.now c.loop-module.module-index c.module-item.result (Variable 0) c.in_ok-before.before c.loop-module-test.true c.module-item.is
    c.in_ok-before.ensures.before (sym c.is_some.ensures ∙ c.if-is_some.false) c.in_ok-before.ensures.declared c.loop-module.invariant
