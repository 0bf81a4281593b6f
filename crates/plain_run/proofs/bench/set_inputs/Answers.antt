use Rattle.std.proofs.Common.{◌≡◌, ◌<◌, ◌+◌, length, get_or, drop, arith, sym, ◌∙◌, ap}
use Rattle.std.specs.Prelude.{slice_index}
use Rattle.std.proofs.lemmas.List.{length-map}
use Rattle.bit_ops.specs.declared.value.Bits.{Bits}
use Rattle.bit_ops.specs.Lists.{words, widths}
use Rattle.plain_run.proofs.Places.{split, set_step, widths_stay, given_width, map-set}
use Rattle.plain_run.specs.Places.{set_places}
use Rattle.plain_run.proofs.bench.set_inputs.Goals as goal

pub loop-k-preserved : goal.loop-k-preserved
loop-k-preserved c =
    let places = c.args.places.now in
    let given = c.args.given.now in
    let k = c.loop-k.k in
    let place = get_or places k 0 in
    let value = c.index-given-k.result in
    let each : length given ≡ length places = sym (length-map given (λ b. b.width)) ∙ ap length c.requires.given ∙ length-map places
    (slice_index (widths c.args.values.now)) in
    let within : k < length given = omega (arith, each) in
    record {
      same_widths = widths_stay c.loop-k.values (widths c.args.values.now) place value c.loop-k.invariant.same_widths
          (given_width given places (widths c.args.values.now) k value within c.index-given-k.is c.requires.given);
      rest = ap (set_places (drop (k + 1) places) (words (drop (k + 1) given))) (map-set (λ (b : Bits). b.word) c.loop-k.values place value)
          ∙ set_step places (words (drop k given)) (words (drop (k + 1) given)) (words c.loop-k.values) _ k value.word c.loop-k-test.true
          (ap words (split given k value within c.index-given-k.is)) c.loop-k.invariant.rest;
    }
