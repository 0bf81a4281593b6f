use Rattle.std.proofs.Common.{◌≡◌, ◌∙◌, length, get_or, ap, subst, sym, arith, ◌+◌}
use Rattle.code_isa.proofs.Counting.{AreCounted, few_outputs, few_inputs, one_more, all_counted}
use Rattle.code_isa.proofs.slots.first_instruction.Goals as goal

pub overflow_add-outputs : goal.overflow_add-outputs
overflow_add-outputs c =
    let size : length c.as_slice-kid-items.result.now ≡ length c.args.m.now.kids = ap length c.as_slice-kid-items.ensures in
    omega (arith, c.loop-kid.invariant.few, few_outputs c.kid-item.result, c.len-outputs.ensures, c.args.m.now.few_kids, c.loop-kid-test.true)

pub loop-kid-preserved : goal.loop-kid-preserved
loop-kid-preserved c =
    let size : length c.as_slice-kid-items.result.now ≡ length c.args.m.now.kids = ap length c.as_slice-kid-items.ensures in
    subst (λ n. AreCounted c.args.m.now.kids (c.loop-kid.outputs + n) (c.loop-kid.kid-index + 1)) (sym c.len-outputs.ensures)
    (one_more c.args.m.now.kids c.loop-kid.outputs c.loop-kid.kid-index c.kid-item.result (omega (arith, c.loop-kid-test.true)) (c.kid-item.is ∙ ap (λ ks. get_or ks c.loop-kid.kid-index c.kid-item.result) c.as_slice-kid-items.ensures) c.loop-kid.invariant)

pub overflow_add-result : goal.overflow_add-result
overflow_add-result c = omega (arith, few_inputs c.args.m.now, c.input_count.ensures, c.as_slice.type_inv)

pub overflow_add-result-2 : goal.overflow_add-result-2
overflow_add-result-2 c =
    let size : length c.as_slice-kid-items.result.now ≡ length c.args.m.now.kids = ap length c.as_slice-kid-items.ensures in
    omega (arith, few_inputs c.args.m.now, c.input_count.ensures, c.as_slice.type_inv, c.loop-kid.invariant.few, c.args.m.now.few_kids, c.loop-kid.auto.kid-index-end)

pub returns-clause-count : goal.returns-clause-count
returns-clause-count c =
    let size : length c.as_slice-kid-items.result.now ≡ length c.args.m.now.kids = ap length c.as_slice-kid-items.ensures in
    let regs : length c.as_slice.result.now ≡ length c.args.m.now.regs = ap length c.as_slice.ensures in
    ap (λ n. c.input_count.result + n + c.loop-kid.outputs) regs ∙ all_counted c.args.m.now c.input_count.result c.loop-kid.outputs c.loop-kid.kid-index c.input_count.ensures c.loop-kid.invariant (omega (arith, c.loop-kid-test.false))

pub returns-clause-few : goal.returns-clause-few
returns-clause-few c =
    let size : length c.as_slice-kid-items.result.now ≡ length c.args.m.now.kids = ap length c.as_slice-kid-items.ensures in
    omega (arith, few_inputs c.args.m.now, c.input_count.ensures, c.as_slice.type_inv, c.loop-kid.invariant.few, c.args.m.now.few_kids, c.loop-kid.auto.kid-index-end)
