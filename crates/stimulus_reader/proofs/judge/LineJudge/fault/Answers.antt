use Rattle.std.proofs.Common.{Option, refl, sym, ap, ◌∙◌}
use Rattle.stimulus_reader.specs.Reading.{Reading}
use Rattle.stimulus_reader.specs.code.Fields.{bad_of}
use Rattle.stimulus_reader.specs.declared.reason.Reason.{Reason}
use Rattle.stimulus_reader.proofs.judge.LineJudge.fault.Goals as goal

pub returns-clause-told : goal.returns-clause-told
returns-clause-told c =
    let view = c.self.view_is in
    let last = c.self.inside.last in
    let word = c.self.inside.line.items in
    (record { line = last; reason = c.in_ok-reason.reason; word = word }, sym (ap (λ (r : Reading). r.bad) view) ∙ ap (λ (b : Option Reason). bad_of b last word) c.in_ok-reason.was, refl, refl, sym (ap (λ (r : Reading). r.last) view))
