use Rattle.std.proofs.Common.{◌≡◌, ◌<◌, ◌++◌, ◌∷◌, [], length, sym, ◌∙◌, arith, map, length-append}
use Rattle.std.proofs.lemmas.List.{length-map}
use Rattle.bit_ops.specs.declared.value.Bits.{Bits}
use Rattle.sv_base.specs.declared.face.Port.{Port}
use Rattle.sv_base.specs.Classes.{is_value}
use Rattle.stimulus_reader.proofs.StimulusValues.{gathered_in, gathered_out, mapped_at, same_length}
use Rattle.stimulus_reader.proofs.values.gather_inputs.Goals.{then-is_value, else-is_value}
use Rattle.stimulus_reader.proofs.values.gather_inputs.Goals as goal

pub loop-i-preserved : goal.loop-i-preserved
loop-i-preserved c =
    let ports = c.args.ports.now in
    let values = c.args.values.now in
    let i = c.loop-i.i in
    let p = c.index-ports-i.result in
    let before = c.loop-i.invariant in
    let fitting = c.requires.values in
    let inside = c.loop-i-test.true in
    let same : length values ≡ length ports = same_length values ports fitting in
    let in_values : i < length values = omega arith in
    let in_words : i < length (map (λ (v : Bits). v.word) values) = omega (arith, length-map values (λ (v : Bits). v.word)) in
    let in_widths : i < length (map (λ (q : Port). q.width) ports) = omega (arith, length-map ports (λ (q : Port). q.width)) in
    elim c.if-is_value.branch [
      | then-is_value w ↦
          let v = w.index-values-i.result in
          let new : c.if-is_value.inputs.items ≡ c.loop-i.inputs.items ++ v ∷ [] = cc in
          let chosen = sym c.is_value.ensures ∙ w.if-is_value.true in
          record {
            words = rw new (gathered_in (λ (x : Bits). x.word) is_value ports (map (λ (x : Bits). x.word) values) _ c.loop-i.inputs.items v i p inside in_words chosen (mapped_at (λ (x : Bits). x.word) values i v in_values w.index-values-i.is) before.words);
            widths = rw new (gathered_in (λ (x : Bits). x.width) is_value ports (map (λ (q : Port). q.width) ports) _ c.loop-i.inputs.items v i p inside in_widths chosen (rw (← fitting) (mapped_at (λ (x : Bits). x.width) values i v in_values w.index-values-i.is)) before.widths);
            few = rw new (omega (arith, length-append c.loop-i.inputs.items (v ∷ []), before.few));
            capacity = cc;
          }
      | else-is_value w ↦
          let chosen = sym c.is_value.ensures ∙ w.if-is_value.false in
          record {
            words = rw w.inputs-is (gathered_out (λ (x : Bits). x.word) is_value ports (map (λ (x : Bits). x.word) values) _ c.loop-i.inputs.items i p inside in_words chosen before.words);
            widths = rw w.inputs-is (gathered_out (λ (x : Bits). x.width) is_value ports (map (λ (q : Port). q.width) ports) _ c.loop-i.inputs.items i p inside in_widths chosen before.widths);
            few = rw w.inputs-is (omega (arith, before.few));
            capacity = cc;
          }
    ]
