use Rattle.std.proofs.Common.{◌≡◌, ◌<◌, ◌==◌, ◌++◌, ◌∷◌, [], Bool, length, sym, ◌∙◌, arith, map, length-append}
use Rattle.std.proofs.lemmas.List.{length-map}
use Rattle.bit_ops.specs.declared.value.Bits.{Bits}
use Rattle.sv_base.specs.Classes.{is_clock, level_word}
use Rattle.stimulus_reader.proofs.StimulusValues.{gathered_in, gathered_out, mapped_at, same_length, level_is}
use Rattle.stimulus_reader.proofs.values.gather_levels.Goals.{then-is_clock, else-is_clock}
use Rattle.stimulus_reader.proofs.values.gather_levels.Goals as goal

pub loop-i-preserved : goal.loop-i-preserved
loop-i-preserved c =
    let ports = c.args.ports.now in
    let values = c.args.values.now in
    let i = c.loop-i.i in
    let p = c.index-ports-i.result in
    let before = c.loop-i.invariant in
    let fitting = c.requires.values in
    let inside = c.loop-i-test.true in
    let same : length values ≡ length ports = same_length values ports fitting in
    let in_values : i < length values = omega arith in
    let in_words : i < length (map (λ (v : Bits). v.word) values) = omega (arith, length-map values (λ (v : Bits). v.word)) in
    elim c.if-is_clock.branch [
      | then-is_clock w ↦
          let v = w.index-values-i.result in
          let level : Bool = v.word == 1 in
          let new : c.if-is_clock.levels.items ≡ c.loop-i.levels.items ++ level ∷ [] = cc in
          let chosen = sym c.is_clock.ensures ∙ w.if-is_clock.true in
          let word : level_word level ≡ v.word = level_is ports values i p v c.requires.clocks fitting inside in_values chosen w.index-values-i.is in
          let read = mapped_at (λ (x : Bits). x.word) values i v in_values w.index-values-i.is in
          record {
            levels = rw new (gathered_in level_word is_clock ports (map (λ (x : Bits). x.word) values) _ c.loop-i.levels.items level i p inside in_words chosen (rw word read) before.levels);
            few = rw new (omega (arith, length-append c.loop-i.levels.items (level ∷ []), before.few));
            capacity = cc;
          }
      | else-is_clock w ↦
          let chosen = sym c.is_clock.ensures ∙ w.if-is_clock.false in
          record {
            levels = rw w.levels-is (gathered_out level_word is_clock ports (map (λ (x : Bits). x.word) values) _ c.loop-i.levels.items i p inside in_words chosen before.levels);
            few = rw w.levels-is (omega (arith, before.few));
            capacity = cc;
          }
    ]
