use Rattle.std.proofs.Common.{◌≡◌, ap, arith, ◌∙◌, refl}
use Rattle.module_parser.specs.Reading.{item_to}
use Rattle.module_parser.proofs.Turns.{deeper}
use Rattle.module_parser.proofs.item.+item_to.Goals as goal

pub returns-then-depth-eq0 : goal.returns-then-depth-eq0
unfolding item_to
returns-then-depth-eq0 t c = λ h. let none : c.args.depth ≡ 0 = omega arith in ap (λ n. item_to n c.args.tokens.now) none ∙ rw (c.refuse.ensures h) refl

pub returns : goal.returns
unfolding item_to
returns t c = rw (deeper (λ n. item_to n c.args.tokens.now) c.args.depth (omega arith)) c.item_level.ensures
