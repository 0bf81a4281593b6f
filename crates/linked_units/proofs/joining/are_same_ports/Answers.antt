use Rattle.std.proofs.Common.{arith, refl}
use Rattle.linked_units.proofs.Zips.{same_lists}
use Rattle.linked_units.proofs.joining.are_same_ports.Goals as goal

pub returns : goal.returns
returns c = (λ _. same_lists c.args.a.now c.args.b.now c.if-a-b.false (λ i d inside. c.loop-k.invariant i d (omega arith)), λ _. refl)
