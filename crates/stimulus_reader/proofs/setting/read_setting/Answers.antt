use Rattle.std.proofs.Common.{sym, subst, ◌∙◌, ◌+◌, List, ℕ, length, IfErr}
use Rattle.stimulus_reader.specs.code.LineReading.{StandsIn}
use Rattle.stimulus_reader.proofs.StimulusSettings.{whole_stands, name_stands, parts_whole, port_at, setting_gives, setting_fits}
use Rattle.stimulus_reader.proofs.setting.read_setting.Goals as goal

pub returns-in_default-clause-part : goal.returns-in_default-clause-part
returns-in_default-clause-part c = whole_stands c.args.word.now

pub returns-in_default-input-clause-part : goal.returns-in_default-input-clause-part
returns-in_default-input-clause-part c =
    let name = c.in-Some.name.now in
    let text = c.in-Some.text.now in
    subst (λ (w : List ℕ). StandsIn w name (length text + 1)) (sym (parts_whole c.args.word.now name text c.in-Some.ensures)) (name_stands name text)

pub returns-clause-gives : goal.returns-clause-gives
returns-clause-gives c =
    let found = c.in-Some-input.ensures.found in
    setting_gives c.args.ports.now c.args.kind _ c.args.word.now c.in-Some.name.now c.in-Some.text.now c.in-Some-input.at c.index-ports-at.result _ c.in-Some.ensures found
    (c.index-ports-at.is ∙ port_at c.args.ports.now c.in-Some.name.now c.in-Some-input.at c.index-ports-at.result found) c.set_port.ensures.gives

pub returns-clause-fitting : goal.returns-clause-fitting
returns-clause-fitting c =
    let found = c.in-Some-input.ensures.found in
    setting_fits c.args.ports.now c.args.kind c.in-Some.name.now c.in-Some-input.at c.index-ports-at.result c.set_port.result found c.in-Some-input.ensures.there
    (c.index-ports-at.is ∙ port_at c.args.ports.now c.in-Some.name.now c.in-Some-input.at c.index-ports-at.result found) c.set_port.ensures.place c.set_port.ensures.width c.set_port.ensures.allowed

pub returns-clause-part : goal.returns-clause-part
returns-clause-part c =
    subst (λ (w : List ℕ). IfErr c.set_port.result (λ bad. StandsIn w bad.word.now bad.behind)) (sym (parts_whole c.args.word.now c.in-Some.name.now c.in-Some.text.now c.in-Some.ensures)) c.set_port.ensures.part
