use Rattle.std.proofs.Common.{◌≡◌, Some, false, sym, subst}
use Rattle.const_eval.specs.Meaning.{assigned}
use Rattle.const_eval.specs.Expressions.{Judged}
use Rattle.const_eval.specs.Constant.{constant_of}
use Rattle.const_eval.specs.code.Agreeing.{Agrees}
use Rattle.width_rules.specs.Values.{bits_of}
use Rattle.elaborate.proofs.Visible.{constant_same}
use Rattle.elaborate.proofs.Values.{assigned_found}
use Rattle.elaborate.proofs.walk.Walk.initial.Goals as goal

-- src/expression.rt:30:5
pub returns : goal.returns
returns c =
    subst (λ (j : Judged). Agrees (λ found m. found ≡ bits_of c.args.width (assigned (Some c.args.width) false m)) c.assigned_constant.result j)
    (sym (constant_same c.args.self.now c.args.e.now))
    (assigned_found c.args.width (constant_of c.args.self.now.scope.names c.args.e.now) c.assigned_constant.result c.assigned_constant.ensures.value
    c.assigned_constant.ensures.refused)
