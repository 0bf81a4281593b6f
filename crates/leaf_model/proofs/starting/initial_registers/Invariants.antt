use Rattle.std.proofs.Common.{◌≡◌, map, take}
use Rattle.bit_ops.specs.Lists.{words, widths}
use Rattle.code_isa.specs.declared.machine.Reg.{Reg}
use Rattle.leaf_model.proofs.starting.initial_registers.Given as goal

abbrev pub invariant-loop-reg : goal.invariant-loop-reg
invariant-loop-reg l = record {
  widths : widths l.values.items ≡ map (λ (x : Reg). x.width) (take l.reg-index l.regs);
  words : words l.values.items ≡ map (λ (x : Reg). x.init) (take l.reg-index l.regs);
}
