use Rattle.std.proofs.Common.{◌≡◌, ◌+◌, ◌++◌, drop, Some, length, map, slice_index, ◌≤◌, ◌∷◌, refl, sym, ap, subst, ◌∙◌, arith}
use Rattle.std.specs.Prelude.{slice_get, if◌then◌else◌}
use Rattle.std.proofs.lemmas.Option.{slice_get_read, get_or_from_slice_get}
use Rattle.bit_ops.specs.Lists.{words, widths}
use Rattle.sv_base.specs.declared.face.Port.{Port}
use Rattle.sv_base.specs.Classes.{is_output}
use Rattle.sv_base.specs.Meaning.{row_of, widths_of_class}
use Rattle.session.proofs.Rows.{row_from, outputs_from, words_further, widths_further, chosen, drop_at, one_if_small, width_at, same_width, output_next}
use Rattle.session.proofs.Rows.{output_width}
use Rattle.session.proofs.showing.collect_values.Goals as goal

pub outputs_with-outputs-requires : goal.outputs_with-outputs-requires
outputs_with-outputs-requires g c =
    omega (arith, c.loop-place.invariant.few, c.loop-place-test.true, c.requires.room, c.args.values.now.small, c.args.values.now.ok)

pub loop-place-preserved : goal.loop-place-preserved
loop-place-preserved g c =
    let ports = c.args.ports.now in
    let place = c.loop-place.place in
    let outputs = c.loop-place.outputs in
    let values = c.loop-place.values.items in
    let shown = g.B.Bench.outputs c.args.bench.now in
    let read = c.args.reader.now.values in
    let port = c.index-ports-place.result in
    let b = c.port_value.result in
    let at : slice_get ports place ≡ Some port = slice_get_read ports (length ports) _ _ refl c.loop-place-test.true c.index-ports-place.is in
    let near : slice_get ports place ≡ Some port → slice_index (map (λ (p : Port). p.width) c.args.reader.now.ports) place ≡ port.width =
    λ found. ap (λ ps. slice_index (map (λ (p : Port). p.width) ps) place) c.requires.reader ∙ width_at ports place port found in
    let word = if is_output port.class then slice_index shown outputs else slice_index read place in
    let next = row_of (drop (place + 1) ports) (drop (place + 1) read) (drop c.outputs_with-outputs.result shown) in
    let counted = c.outputs_with-outputs.ensures in
    record {
      outputs = ap (λ n. drop n (widths_of_class is_output ports)) counted ∙ outputs_from ports place outputs port at c.loop-place.invariant.outputs;
      few = subst (λ n. n ≤ place + 1) (sym counted) (one_if_small (is_output port.class) outputs place c.loop-place.invariant.few);
      len = c.push_reserved.ensures.len ∙ ap (λ k. k + 1) c.loop-place.invariant.len;
      row_words = ap (λ vs. words vs ++ next) c.push_reserved.ensures.items
          ∙ words_further values b next (row_of ports read shown) word
          (chosen (is_output port.class) (slice_index shown outputs) (slice_index read place) b.word
          (λ is. sym (get_or_from_slice_get shown outputs b.word 0 (c.port_value.ensures.shown is))) c.port_value.ensures.word)
          (ap (λ n. words values ++ (word ∷ row_of (drop (place + 1) ports) (drop (place + 1) read) (drop n shown))) counted
          ∙ ap (λ row. words values ++ row) (sym (row_from ports read shown place outputs port at)) ∙ c.loop-place.invariant.row_words);
      row_widths = ap (λ vs. widths vs ++ map (λ (p : Port). p.width) (drop (place + 1) ports)) c.push_reserved.ensures.items
          ∙ widths_further values b (map (λ (p : Port). p.width) (drop (place + 1) ports)) (map (λ (p : Port). p.width) ports) port.width
          (same_width (is_output port.class) b.width port.width
          (λ is. output_width (widths_of_class is_output ports) _ outputs b.width port.width
          (output_next ports place outputs port at is c.loop-place.invariant.outputs)
          (ap (λ ps. slice_get (widths_of_class is_output ps) outputs) c.requires.ports ∙ c.port_value.ensures.shown_width is))
          (λ is. c.port_value.ensures.width is ∙ near at))
          (ap (λ ps. widths values ++ map (λ (p : Port). p.width) ps) (sym (drop_at ports place port at)) ∙ c.loop-place.invariant.row_widths);
      room = c.push_reserved.ensures.capacity ∙ c.loop-place.invariant.room;
    }
