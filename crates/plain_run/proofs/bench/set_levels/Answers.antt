use Rattle.std.proofs.Common.{◌≡◌, ◌<◌, ◌+◌, length, get_or, drop, arith, sym, ◌∙◌, ap}
use Rattle.bit_ops.specs.declared.value.Bits.{Bits}
use Rattle.bit_ops.specs.Lists.{words, widths}
use Rattle.std.specs.Prelude.{slice_index}
use Rattle.plain_run.specs.Places.{set_places}
use Rattle.plain_run.proofs.Places.{level_words, level_step, level_is, set_step, widths_stay, all_at_place, map-set}
use Rattle.plain_run.proofs.bench.set_levels.Goals as goal

pub loop-k-preserved : goal.loop-k-preserved
loop-k-preserved c =
    let places = c.args.places.now in
    let levels = c.args.levels.now in
    let k = c.loop-k.k in
    let place = get_or places k 0 in
    let value = c.flag.result in
    let within : k < length levels = omega (arith, c.requires.each, c.loop-k-test.true) in
    record {
      same_widths = widths_stay c.loop-k.values (widths c.args.values.now) place value c.loop-k.invariant.same_widths
          (c.flag.ensures.width ∙ sym (all_at_place (λ p. slice_index (widths c.args.values.now) p ≡ 1) places k c.requires.one_bit c.loop-k-test.true));
      rest = ap (set_places (drop (k + 1) places) (level_words (drop (k + 1) levels))) (map-set (λ (b : Bits). b.word) c.loop-k.values place value)
          ∙ set_step places (level_words (drop k levels)) (level_words (drop (k + 1) levels)) (words c.loop-k.values) _ k value.word c.loop-k-test.true
          (level_step levels k value.word within (c.flag.ensures.word ∙ level_is _)) c.loop-k.invariant.rest;
    }
