use Rattle.std.proofs.Common.{refl, sym, ap, ◌∙◌, List, ℕ, ◌+◌, if◌then◌else◌, Some}
use Rattle.sv_base.specs.Steps.{set_all}
use Rattle.stimulus_reader.specs.Reading.{Reading}
use Rattle.stimulus_reader.specs.code.LineReading.{fault_seen, settings_seen}
use Rattle.stimulus_reader.proofs.StimulusJudging.{verdict_is, word_kept, behind_line}
use Rattle.stimulus_reader.proofs.StimulusValues.{all_settable}
use Rattle.stimulus_reader.specs.declared.judge.LineJudge.TheInside.{Inside}
use Rattle.stimulus_reader.proofs.judge.LineJudge.judge.Goals as goal

pub returns-in-Bad-clause-judges : goal.returns-in-Bad-clause-judges
returns-in-Bad-clause-judges c =
    let line = c.self.inside.line.items in
    let bad = c.in-Bad.bad in
    let gives = rw (c.deref.ensures.value, c.deref-2.ensures.value) at c.in-Bad.ensures.gives in
    let part = rw c.deref-2.ensures.value at c.in-Bad.ensures.part in
    record {
      fault = fault_seen bad;
      verdict = sym (gives ∙ verdict_is c.self.inside c.args.self.now c.args.ended c.self.view_is c.requires.good);
      ports = ap (λ (r : Reading). r.ports) c.self.view_is;
      line_is = ap (λ (r : Reading). r.number) c.self.view_is;
      reason_is = refl;
      bad = ap (λ (word : List ℕ). Some (record { line = c.self.inside.number; reason = bad.reason; word = word })) (c.keep_word.ensures.word ∙ word_kept line bad.word.now bad.behind part);
      values = ap (λ (r : Reading). r.values) c.self.view_is;
      last = refl;
    }

pub returns-in-Step-clause-judges : goal.returns-in-Step-clause-judges
returns-in-Step-clause-judges c =
    let view = c.self.view_is in
    let settings = c.read_line.new.settings.items in
    let gives = rw (c.deref.ensures.value, c.deref-2.ensures.value) at c.in-Step.ensures.gives in
    let fitting = rw c.deref.ensures.value at (c.in-Step.ensures.fitting c.in-Step.kind refl) in
    let after : Inside = record { ports = c.self.inside.ports; number = c.self.inside.number + 1; at = c.self.inside.at + c.bytes_of.result; last = c.self.inside.number; line = c.clear-in-Step.new.self; settings = c.read_line.new.settings; values = c.set_values.new.values; inputs = c.gather_inputs.new.inputs; levels = c.gather_levels.new.levels; bad = c.self.inside.bad } in
    let words = rw c.deref-in-Step.ensures.value at c.set_values.ensures.words in
    record {
      behind = behind_line c.self.inside after c.args.self.now c.args.ended c.bytes_of.result view c.requires.good refl refl refl (c.bytes_of.ensures ∙ ap (λ n. n + (if c.args.ended then 1 else 0)) (c.len.ensures ∙ c.self.inside.line.ok.0)) c.clear-in-Step.ensures.items refl;
      settings = settings_seen settings;
      settable = rw (ap (λ (r : Reading). r.ports) view) at (all_settable c.self.inside.ports.items c.in-Step.kind settings fitting);
      verdict = sym (gives ∙ verdict_is c.self.inside c.args.self.now c.args.ended view c.requires.good);
      values = words ∙ ap (λ (r : Reading). set_all (settings_seen settings) r.values) view;
      last = ap (λ (r : Reading). r.number) view;
    }
