use Rattle.std.proofs.Common.{◌*◌, ◌^◌, ◌∙◌, arith}
use Rattle.bit_ops.specs.declared.value.TheConstants.{MAX_WIDTH}
use Rattle.driver_check.proofs.Places.{far_left, cut_twice}
use Rattle.driver_check.proofs.constant.bits_below.Goals as goal

pub returns-then-places-from-clause-word : goal.returns-then-places-from-clause-word
returns-then-places-from-clause-word c = c.truncated.ensures.word ∙ cut_twice c.args.width (c.args.word * 2 ^ c.args.places) MAX_WIDTH (omega arith)

pub returns-else-places-from-clause-word : goal.returns-else-places-from-clause-word
returns-else-places-from-clause-word c = c.zero.ensures.word ∙ far_left c.args.width c.args.word c.args.places (omega arith)
