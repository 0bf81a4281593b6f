use Rattle.std.proofs.Common.{◌∙◌, arith}
use Rattle.bit_ops.specs.declared.value.TheConstants.{MAX_WIDTH}
use Rattle.driver_check.proofs.Places.{far_right}
use Rattle.driver_check.proofs.constant.bits_above.Goals as goal

pub returns-else-places-from-clause-word : goal.returns-else-places-from-clause-word
returns-else-places-from-clause-word c = c.zero.ensures.word ∙ far_right c.args.width c.args.word c.args.places MAX_WIDTH (omega arith) (omega arith)
