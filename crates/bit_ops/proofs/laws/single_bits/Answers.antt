use Rattle.std.proofs.lemmas.Nat.Bits.{bit_at_and, bit_at_or, bit_at_xor}
use Rattle.bit_ops.proofs.Positions.{bit_at-not}
use Rattle.bit_ops.proofs.laws.single_bits.Goals as goal

pub returns-clause-not : goal.returns-clause-not
returns-clause-not c = bit_at-not

pub returns-clause-and : goal.returns-clause-and
returns-clause-and c = bit_at_and

pub returns-clause-or : goal.returns-clause-or
returns-clause-or c = bit_at_or

pub returns-clause-xor : goal.returns-clause-xor
returns-clause-xor c = bit_at_xor
