use Rattle.std.proofs.Common.{sym, ◌∙◌, ◌-◌, length}
use Rattle.stimulus_reader.proofs.StimulusLines.{cr_left, cr_none, not_empty}
use Rattle.stimulus_reader.proofs.line.without_cr.Goals as goal

pub returns-then-text-last-eq13 : goal.returns-then-text-last-eq13
returns-then-text-last-eq13 c = let xs = c.args.text.now in cr_left (length xs - 1) xs (not_empty xs (sym c.is_empty.ensures ∙ c.if-is_empty.false)) c.if-text-last-eq13.true

pub returns-else-text-last-eq13 : goal.returns-else-text-last-eq13
returns-else-text-last-eq13 c = let xs = c.args.text.now in cr_none (length xs - 1) xs (not_empty xs (sym c.is_empty.ensures ∙ c.if-is_empty.false)) c.if-text-last-eq13.false
