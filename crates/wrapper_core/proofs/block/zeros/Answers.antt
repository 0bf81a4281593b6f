use Rattle.std.proofs.Common.{◌≡◌, ◌<◌, ◌+◌, ◌∙◌, [], length, map, refl, sym, ap, arith}
use Rattle.std.specs.Prelude.{slice_get, Some}
use Rattle.bit_ops.specs.Lists.{widths}
use Rattle.std.proofs.lemmas.List.{length-map, get_or-map}
use Rattle.std.proofs.lemmas.Option.{slice_get_within, get_or_from_slice_get}
use Rattle.code_isa.specs.declared.machine.Instr.{Instr}
use Rattle.code_isa.specs.Slots.{given_widths, first_instruction}
use Rattle.wrapper_core.proofs.Blocking.{item_at, widths_push, words_push, read_width, widths_each}
use Rattle.wrapper_core.proofs.block.zeros.Goals as goal

pub loop-value-preserved : goal.loop-value-preserved
loop-value-preserved c =
    let given = c.args.given.now in
    let old = c.loop-value.slots.items in
    let new = c.push.new.self.items in
    let k = c.loop-value.value-index in
    record {
      wide = widths_push old new c.zero.result [] (widths given) k c.in_ok-push.ensures.items c.loop-value.invariant.wide (omega (arith, c.loop-value-test.true, widths_each given)) (read_width given k c.value-item.result c.loop-value-test.true c.value-item.is ∙ sym c.zero.ensures.width);
      words = words_push old new c.zero.result k (k + 1) c.in_ok-push.ensures.items c.loop-value.invariant.words c.zero.ensures.word refl;
    }

pub loop-i-preserved : goal.loop-i-preserved
loop-i-preserved c =
    let m = c.args.m.now in
    let code_widths = map (λ (i : Instr). i.width) m.code in
    let old = c.loop-i.slots.items in
    let new = c.push-in-loop-i.new.self.items in
    let k = c.loop-i.i-index in
    let at : slice_get m.code k ≡ Some c.i-item.result = item_at m.code c.as_slice-i-items.result.now k c.i-item.result (c.as_slice-i-items.ensures ∙ ap (λ x. x.code) c.machine.ensures.same) c.loop-i-test.true c.i-item.is in
    let inside : k < length m.code = slice_get_within m.code k c.i-item.result at in
    record {
      wide = widths_push old new c.zero-in-loop-i.result (given_widths m) code_widths k c.in_ok-push-2.ensures.items c.loop-i.invariant.wide (omega (arith, inside, length-map m.code (λ (i : Instr). i.width)))
          (get_or-map (λ (i : Instr). i.width) m.code k c.i-item.result 0 inside ∙ ap (λ (i : Instr). i.width) (get_or_from_slice_get m.code k c.i-item.result c.i-item.result at) ∙ sym c.zero-in-loop-i.ensures.width);
      words = words_push old new c.zero-in-loop-i.result (first_instruction m + k) (first_instruction m + (k + 1)) c.in_ok-push-2.ensures.items c.loop-i.invariant.words c.zero-in-loop-i.ensures.word (let e : first_instruction m + (k + 1) ≡ first_instruction m + k + 1 = omega arith in e);
    }
