use Rattle.std.proofs.Common.{◌-◌}
use Rattle.bit_ops.proofs.Words.{high_bits}
use Rattle.bit_ops.proofs.value.Bits.is_negative.Goals as goal

pub returns : goal.returns
returns c = high_bits (c.args.self.width - 1) c.args.self.word
