use Rattle.std.proofs.Common.{◌<◌, ◌≡◌, ◌∙◌, length, ap, arith}
use Rattle.std.specs.Prelude.{slice_get, Some}
use Rattle.bit_ops.specs.Lists.{words, widths}
use Rattle.std.proofs.lemmas.Option.{slice_get_within}
use Rattle.code_isa.specs.Values.{instr_value}
use Rattle.code_isa.proofs.Running.{underway_more, item_at}
use Rattle.code_isa.proofs.run.run_slots.Goals as goal

pub loop-i-preserved : goal.loop-i-preserved
loop-i-preserved c =
    let at : slice_get c.args.m.now.code c.loop-i.i-index ≡ Some c.i-item.result =
    item_at c.args.m.now.code c.as_slice-i-items.result.now c.loop-i.i-index c.i-item.result c.as_slice-i-items.ensures c.loop-i-test.true c.i-item.is in
    underway_more c.args.m.now c.args.slots.now.items c.loop-i.slots.items c.loop-i.at c.loop-i.i-index c.i-item.result c.value-result.result c.requires.checked.slot_order c.loop-i.invariant at c.value-result.ensures.width
    (c.value-result.ensures.word ∙ ap (λ xs. instr_value (widths xs) (words xs) c.i-item.result) c.as_slice.ensures.value)

pub returns-clause-run : goal.returns-clause-run
returns-clause-run c = λ k i at.
    let inside : k < length c.args.m.now.code = slice_get_within c.args.m.now.code k i at in
    let size : length c.as_slice-i-items.result.now ≡ length c.args.m.now.code = ap length c.as_slice-i-items.ensures in
    c.loop-i.invariant.run k (omega (arith, c.loop-i-test.false)) i at
