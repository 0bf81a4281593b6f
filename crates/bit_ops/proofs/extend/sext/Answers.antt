use Rattle.std.proofs.Common.{◌∙◌, arith}
use Rattle.std.proofs.lemmas.Nat.{pow_pos}
use Rattle.bit_ops.proofs.Words.{wider, pow_le}
use Rattle.bit_ops.proofs.Signed.{extended_high}
use Rattle.bit_ops.proofs.extend.sext.Goals as goal

pub overflow_sub-ones : goal.overflow_sub-ones
overflow_sub-ones c =
    omega (arith, pow_le c.args.a.width c.args.w c.requires.fits, c.ones.ensures, c.ones-then-is_negative.ensures)

pub new-requires-clause-word : goal.new-requires-clause-word
new-requires-clause-word c =
    omega (arith, pow_le c.args.a.width c.args.w c.requires.fits, pow_pos c.args.a.width, c.ones.ensures, c.ones-then-is_negative.ensures)

pub new-requires-else-is_negative-clause-word : goal.new-requires-else-is_negative-clause-word
new-requires-else-is_negative-clause-word c = wider c.args.a.width c.args.w c.args.a.word c.requires.fits c.args.a.fits

pub returns-then-is_negative-clause-value : goal.returns-then-is_negative-clause-value
returns-then-is_negative-clause-value c =
    c.new.ensures.word
    ∙ extended_high c.args.a.width c.args.w c.args.a.word _ _ c.requires.fits (c.is_negative.ensures.0 c.if-is_negative.true)
    c.args.a.fits c.ones.ensures c.ones-then-is_negative.ensures
