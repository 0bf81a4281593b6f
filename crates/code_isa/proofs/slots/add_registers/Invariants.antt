use Rattle.std.proofs.Common.{◌≡◌, ◌++◌, map, take}
use Rattle.code_isa.specs.declared.machine.Reg.{Reg}
use Rattle.code_isa.proofs.slots.add_registers.Given as goal

abbrev pub invariant-loop-r : goal.invariant-loop-r
invariant-loop-r l = l.widths.items ≡ l.fn.widths.items ++ map (λ (r : Reg). r.width) (take l.r-index l.regs)
