use Rattle.std.proofs.Common.{◌≡◌, length, ap, arith}
use Rattle.code_isa.proofs.Readers.{slot_total}
use Rattle.code_isa.proofs.slots.slot_count.Goals as goal

pub overflow_add-result : goal.overflow_add-result
overflow_add-result c = omega (arith, c.first_instruction.ensures.few, c.as_slice.type_inv)

pub returns : goal.returns
returns c =
    let code : length c.as_slice.result.now ≡ length c.args.m.now.code = ap length c.as_slice.ensures in
    omega (arith, code, c.first_instruction.ensures.count, slot_total c.args.m.now)
