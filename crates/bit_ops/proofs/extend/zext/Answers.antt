use Rattle.bit_ops.proofs.Words.{wider}
use Rattle.bit_ops.proofs.extend.zext.Goals as goal

pub new-requires-clause-word : goal.new-requires-clause-word
new-requires-clause-word c = wider c.args.a.width c.args.w c.args.a.word c.requires.fits c.args.a.fits
