use Rattle.std.proofs.Common.{◌∙◌, sym, arith, ◌<◌, ◌^◌}
use Rattle.bit_ops.specs.declared.value.TheConstants.{MAX_WIDTH}
use Rattle.bit_ops.proofs.Words.{difference_cut, wider}
use Rattle.bit_ops.proofs.Signed.{word_of_difference}
use Rattle.bit_ops.proofs.arithmetic.sub.Goals as goal

pub returns-clause-value : goal.returns-clause-value
returns-clause-value c =
    let fits : c.args.b.word < 2 ^ c.args.a.width = wider c.args.b.width c.args.a.width c.args.b.word (omega arith) c.args.b.fits in
    c.truncated.ensures.word
    ∙ difference_cut MAX_WIDTH c.args.a.width c.args.a.word c.args.b.word c.args.a.within fits
    ∙ sym (word_of_difference c.args.a.width c.args.a.word c.args.b.word (omega arith))
