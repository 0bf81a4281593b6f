use Rattle.std.proofs.Common.{◌^◌, ◌<◌, ◌+◌, ℕ, ◌∙◌, sym, subst}
use Rattle.bit_ops.specs.declared.value.TheConstants.{MAX_WIDTH}
use Rattle.bit_ops.proofs.Words.{joined, joined_fits}
use Rattle.bit_ops.proofs.part.concat.Goals as goal

pub new-requires-clause-word : goal.new-requires-clause-word
new-requires-clause-word c =
    subst (λ (k : ℕ). k < 2 ^ (c.args.a.width + c.args.b.width))
    (sym (joined MAX_WIDTH c.args.a.width c.args.b.width c.args.a.word c.args.b.word c.requires.width.1 c.args.a.fits c.args.b.fits))
    (joined_fits c.args.a.width c.args.b.width c.args.a.word c.args.b.word c.args.a.fits c.args.b.fits)

pub returns-clause-value : goal.returns-clause-value
returns-clause-value c =
    c.new.ensures.word
    ∙ joined MAX_WIDTH c.args.a.width c.args.b.width c.args.a.word c.args.b.word c.requires.width.1 c.args.a.fits c.args.b.fits
