use Rattle.code_isa.proofs.Counting.{AreCounted}
use Rattle.code_isa.proofs.slots.first_instruction.Given as goal

abbrev pub invariant-loop-kid : goal.invariant-loop-kid
invariant-loop-kid l = AreCounted l.m.kids l.outputs l.kid-index
