use Rattle.std.proofs.Common.{◌≡◌, sym, subst}
use Rattle.const_eval.specs.Expressions.{Judged}
use Rattle.const_eval.specs.Constant.{constant_of}
use Rattle.const_eval.specs.code.Agreeing.{Agrees}
use Rattle.width_rules.specs.Values.{const_of}
use Rattle.elaborate.proofs.Visible.{constant_same}
use Rattle.elaborate.proofs.Values.{constant_found}
use Rattle.elaborate.proofs.walk.Walk.constant.Goals as goal

-- src/expression.rt:23:5
pub returns : goal.returns
returns c =
    subst (λ (j : Judged). Agrees (λ found m. found ≡ const_of m) c.constant.result j) (sym (constant_same c.args.self.now c.args.e.now))
    (constant_found (constant_of c.args.self.now.scope.names c.args.e.now) c.constant.result c.constant.ensures.value c.constant.ensures.refused)
