use Rattle.std.proofs.Common.{◌≡◌, true}
use Rattle.bit_ops.specs.Width.{WidthsFit}
use Rattle.code_isa.specs.declared.machine.Instr.{Instr}
use Rattle.code_isa.specs.Values.{operand_widths}
use Rattle.code_check.proofs.Tests.{all_more}
use Rattle.code_check.proofs.widths.is_code_wide.Goals as goal

pub loop-i-preserved : goal.loop-i-preserved
loop-i-preserved c =
    let yes : c.is_wide.result ≡ true = c.if-not-is_wide.false in
    all_more (λ (i : Instr). WidthsFit i.op i.width i.lo (operand_widths c.args.widths.now i)) c.args.code.now c.loop-i.i-index c.i-item.result c.loop-i-test.true c.i-item.is (c.is_wide.ensures.0 yes) c.loop-i.invariant
