use Rattle.std.proofs.Common.{◌≡◌, ℕ, ◌<◌, get_or}
use Rattle.code_isa.specs.declared.machine.Reg.{Reg}
use Rattle.code_check.proofs.widths.are_nexts_wide.Given as goal

abbrev pub invariant-loop-r : goal.invariant-loop-r
invariant-loop-r l = (k : ℕ) (d : Reg) → k < l.r-index → get_or l.widths (get_or l.regs k d).next 0 ≡ (get_or l.regs k d).width
