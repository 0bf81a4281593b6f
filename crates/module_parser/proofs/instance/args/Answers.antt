use Rattle.std.proofs.Common.{arith, ◌∙◌, sym}
use Rattle.std.proofs.lemmas.Grind.{common_steps}
use Rattle.module_parser.specs.Reading.{args, named_arg, ordered_arg}
use Rattle.module_parser.proofs.Branches.{taken, passed, alike}
use Rattle.module_parser.proofs.instance.args.Goals as goal

pub returns-then-sees : goal.returns-then-sees
unfolding args
returns-then-sees c =
    alike c.listed.result c.listed.new.tokens
    (taken _ _ (sym c.sees_no_sign.ensures ∙ c.if-not-sees_no_sign.false)
    ∙ taken _ _ (sym c.sees.ensures ∙ c.if-sees.true))
    (c.listed.ensures named_arg (λ alloc old new r h. h.1))

pub returns-else-sees : goal.returns-else-sees
unfolding args
returns-else-sees c =
    alike c.listed-else-sees.result c.listed-else-sees.new.tokens
    (taken _ _ (sym c.sees_no_sign.ensures ∙ c.if-not-sees_no_sign.false)
    ∙ passed _ _ (sym c.sees.ensures ∙ c.if-sees.false))
    (c.listed-else-sees.ensures ordered_arg (λ alloc old new r h. h.1))

pub returns-then-not-sees_no_sign : goal.returns-then-not-sees_no_sign
unfolding args
returns-then-not-sees_no_sign c = grind (arith, common_steps)
