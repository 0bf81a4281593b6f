use Rattle.std.proofs.Common.{◌≡◌, ◌++◌, map, take}
use Rattle.code_isa.specs.declared.machine.Instr.{Instr}
use Rattle.code_isa.proofs.slots.add_instructions.Given as goal

abbrev pub invariant-loop-i : goal.invariant-loop-i
invariant-loop-i l = l.widths.items ≡ l.fn.widths.items ++ map (λ (i : Instr). i.width) (take l.i-index l.code)
