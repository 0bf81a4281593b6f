use Rattle.std.proofs.Common.{ℕ, ◌<◌, get_or}
use Rattle.bit_ops.specs.Width.{WidthsFit}
use Rattle.code_isa.specs.declared.machine.Instr.{Instr}
use Rattle.code_isa.specs.Values.{operand_widths}
use Rattle.code_check.proofs.widths.is_code_wide.Given as goal

abbrev pub invariant-loop-i : goal.invariant-loop-i
invariant-loop-i l = (k : ℕ) (d : Instr) → k < l.i-index →
    let i = get_or l.code k d in WidthsFit i.op i.width i.lo (operand_widths l.widths i)
