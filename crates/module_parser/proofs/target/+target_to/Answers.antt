use Rattle.std.proofs.Common.{◌≡◌, ap, arith, ◌∙◌, refl}
use Rattle.module_parser.specs.Reading.{target_to}
use Rattle.module_parser.proofs.Turns.{deeper}
use Rattle.module_parser.proofs.target.+target_to.Goals as goal

pub returns-then-depth-eq0 : goal.returns-then-depth-eq0
unfolding target_to
returns-then-depth-eq0 t c = λ h. let none : c.args.depth ≡ 0 = omega arith in ap (λ n. target_to n c.args.tokens.now) none ∙ rw (c.refuse.ensures h) refl

pub returns : goal.returns
unfolding target_to
returns t c = rw (deeper (λ n. target_to n c.args.tokens.now) c.args.depth (omega arith)) c.target_level.ensures
