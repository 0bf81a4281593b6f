use Rattle.std.proofs.Common.{◌≡◌, ◌+◌, ◌-◌, ◌^◌, min, ◌∙◌, arith}
use Rattle.bit_ops.specs.declared.value.TheConstants.{MAX_WIDTH}
use Rattle.const_eval.proofs.Places.{from_far_below}
use Rattle.const_eval.proofs.select.bits_from.Goals as goal

pub returns-in-Negative-clause-word : goal.returns-in-Negative-clause-word
returns-in-Negative-clause-word c =
    let far : c.saturating_add-in-Negative.result ≡ min (min (c.in-Negative.n + c.args.down) (2 ^ MAX_WIDTH - 1) + 1) (2 ^ MAX_WIDTH - 1) = omega arith in
    rw c.in-Negative.is (c.bits_below-in-Negative.ensures.word ∙ from_far_below c.in-Negative.n c.args.down c.args.width c.args.word _ (omega arith) far)
