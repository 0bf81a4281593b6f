use Rattle.linked_units.proofs.joining.is_kid.Goals as goal

pub returns-then-kid-n : goal.returns-then-kid-n
returns-then-kid-n c = (λ h. (c.if-kid-n.true, c.stands_for.ensures.0 h), λ h. c.stands_for.ensures.1 h.1)
