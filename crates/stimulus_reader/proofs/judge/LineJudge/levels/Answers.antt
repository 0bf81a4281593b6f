use Rattle.std.proofs.Common.{◌≡◌, ℕ, List, length, map, sym, ap, ◌∙◌}
use Rattle.std.proofs.lemmas.List.{length-map}
use Rattle.bit_ops.specs.declared.value.Bits.{Bits}
use Rattle.sv_base.specs.declared.face.Port.{Port}
use Rattle.sv_base.specs.Classes.{is_clock, level_word, words_of_class}
use Rattle.stimulus_reader.specs.Reading.{Reading}
use Rattle.stimulus_reader.proofs.StimulusValues.{same_count}
use Rattle.stimulus_reader.proofs.judge.LineJudge.levels.Goals as goal

pub returns-clause-count : goal.returns-clause-count
returns-clause-count c =
    let inside = c.self.inside in
    let ports = inside.ports.items in
    let words : List ℕ = map (λ (v : Bits). v.word) inside.values.items in
    let widths : List ℕ = map (λ (p : Port). p.width) ports in
    let same : length words ≡ length widths =
    length-map inside.values.items (λ (v : Bits). v.word) ∙ sym (length-map inside.values.items (λ (v : Bits). v.width)) ∙ ap length c.self.invariant.fitting in
    let here : length c.as_slice.result.now ≡ length (words_of_class is_clock ports widths) =
    ap length c.as_slice.ensures.value ∙ sym (length-map inside.levels.items level_word) ∙ ap length c.self.invariant.levels ∙ same_count is_clock ports words widths same in
    here ∙ ap (λ (r : Reading). length (words_of_class is_clock r.ports (map (λ (p : Port). p.width) r.ports))) c.self.view_is
