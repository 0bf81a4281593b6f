use Rattle.std.proofs.Common.{◌≡◌, length, map, take, drop}
use Rattle.bit_ops.specs.Lists.{words, widths}
use Rattle.code_isa.specs.declared.machine.Reg.{Reg}
use Rattle.code_isa.specs.Traces.{sampled}
use Rattle.leaf_model.proofs.sampling.sample.Given as goal

abbrev pub invariant-loop-r : goal.invariant-loop-r
invariant-loop-r l = record {
  sized : length l.next.items ≡ length l.regs;
  words : take l.r (words l.next.items) ≡ take l.r (sampled l.old l.new (words l.slots) l.regs (take (length l.regs) (drop l.first (words l.slots))));
  widths : take l.r (widths l.next.items) ≡ take l.r (map (λ (x : Reg). x.width) l.regs);
}
