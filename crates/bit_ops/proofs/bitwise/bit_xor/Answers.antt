use Rattle.std.proofs.Common.{arith}
use Rattle.std.proofs.lemmas.Nat.{xor_lt}
use Rattle.bit_ops.proofs.Words.{wider}
use Rattle.bit_ops.proofs.bitwise.bit_xor.Goals as goal

pub new-requires-clause-word : goal.new-requires-clause-word
new-requires-clause-word c = xor_lt c.args.a.width c.args.a.word c.args.b.word c.args.a.fits (wider c.args.b.width _ _ (omega arith) c.args.b.fits)
