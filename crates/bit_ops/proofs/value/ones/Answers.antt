use Rattle.bit_ops.specs.declared.value.TheConstants.{MAX_WIDTH}
use Rattle.bit_ops.proofs.Words.{ones_low}
use Rattle.bit_ops.proofs.value.ones.Goals as goal

pub returns : goal.returns
returns c = ones_low MAX_WIDTH c.args.width c.requires.1
