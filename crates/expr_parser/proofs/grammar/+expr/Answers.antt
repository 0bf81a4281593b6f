use Rattle.std.proofs.Common.{◌≡◌, ap, arith, ◌∙◌, refl}
use Rattle.expr_parser.specs.Reading.{expr}
use Rattle.expr_parser.proofs.Turns.{deeper}
use Rattle.expr_parser.proofs.grammar.+expr.Goals as goal

pub returns-then-depth-eq0 : goal.returns-then-depth-eq0
unfolding expr
returns-then-depth-eq0 t c = λ h. let none : c.args.depth ≡ 0 = omega arith in ap (λ n. expr n c.args.least c.args.tokens.now) none ∙ rw (c.refuse.ensures h) refl

pub returns : goal.returns
unfolding expr
returns t c = rw (deeper (λ n. expr n c.args.least c.args.tokens.now) c.args.depth (omega arith)) c.level.ensures
