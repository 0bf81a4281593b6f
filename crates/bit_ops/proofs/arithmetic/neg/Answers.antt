use Rattle.std.proofs.Common.{◌∙◌, sym, arith}
use Rattle.bit_ops.specs.declared.value.TheConstants.{MAX_WIDTH}
use Rattle.bit_ops.proofs.Words.{difference_cut}
use Rattle.bit_ops.proofs.Signed.{word_of_negated}
use Rattle.bit_ops.proofs.arithmetic.neg.Goals as goal

pub returns-clause-value : goal.returns-clause-value
returns-clause-value c =
    c.truncated.ensures.word
    ∙ difference_cut MAX_WIDTH c.args.a.width 0 c.args.a.word c.args.a.within c.args.a.fits
    ∙ sym (word_of_negated c.args.a.width c.args.a.word (omega arith))
