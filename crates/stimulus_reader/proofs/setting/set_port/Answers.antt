use Rattle.std.proofs.Common.{sym, ◌∙◌}
use Rattle.stimulus_reader.proofs.StimulusSettings.{name_stands, text_stands, set_twice, set_once}
use Rattle.stimulus_reader.proofs.setting.set_port.Goals as goal

pub returns-in-Some-clause-part : goal.returns-in-Some-clause-part
returns-in-Some-clause-part c = name_stands c.args.name.now c.args.text.now

pub returns-then-is_set-clause-gives : goal.returns-then-is_set-clause-gives
returns-then-is_set-clause-gives c =
    set_twice c.args.kind c.args.set.now c.args.name.now c.args.text.now c.args.at c.args.port.now (sym c.in_default.ensures) (sym c.is_set.ensures ∙ c.if-is_set.true)

pub returns-then-is_set-clause-part : goal.returns-then-is_set-clause-part
returns-then-is_set-clause-part c = name_stands c.args.name.now c.args.text.now

pub returns-in-Some-value_in-clause-gives : goal.returns-in-Some-value_in-clause-gives
returns-in-Some-value_in-clause-gives c =
    set_once c.args.kind c.args.set.now c.args.name.now c.args.text.now c.args.at c.args.port.now _ (sym c.in_default.ensures) (sym c.is_set.ensures ∙ c.if-is_set.false) c.in-Some-value_in.ensures.word

pub returns-in-None-clause-gives : goal.returns-in-None-clause-gives
returns-in-None-clause-gives c =
    set_once c.args.kind c.args.set.now c.args.name.now c.args.text.now c.args.at c.args.port.now _ (sym c.in_default.ensures) (sym c.is_set.ensures ∙ c.if-is_set.false) c.in-None.ensures.word

pub returns-in-None-clause-part : goal.returns-in-None-clause-part
returns-in-None-clause-part c = text_stands c.args.name.now c.args.text.now
