use Rattle.bit_ops.proofs.Words.{masked}
use Rattle.bit_ops.proofs.value.Bits.truncated.Goals as goal

pub returns-clause-word : goal.returns-clause-word
returns-clause-word c = masked c.args.width c.args.word _ c.ones.ensures
