use Rattle.std.proofs.Common.{◌^◌, ◌<◌, ℕ, ◌∙◌, sym, subst, arith}
use Rattle.bit_ops.specs.declared.value.TheConstants.{MAX_WIDTH}
use Rattle.bit_ops.proofs.Words.{inserted, inserted_fits, wider}
use Rattle.bit_ops.proofs.part.insert.Goals as goal

pub new-requires-clause-word : goal.new-requires-clause-word
new-requires-clause-word c =
    subst (λ (k : ℕ). k < 2 ^ c.args.a.width)
    (sym (inserted MAX_WIDTH c.args.lo c.args.b.width c.args.a.word c.args.b.word c.ones.result (omega arith)
    (wider c.args.a.width MAX_WIDTH c.args.a.word c.args.a.within c.args.a.fits) c.args.b.fits c.ones.ensures))
    (inserted_fits c.args.lo c.args.b.width c.args.a.width c.args.a.word c.args.b.word c.requires.1 c.args.a.fits c.args.b.fits)

pub returns-clause-value : goal.returns-clause-value
returns-clause-value c =
    c.new.ensures.word
    ∙ inserted MAX_WIDTH c.args.lo c.args.b.width c.args.a.word c.args.b.word c.ones.result (omega arith)
    (wider c.args.a.width MAX_WIDTH c.args.a.word c.args.a.within c.args.a.fits) c.args.b.fits c.ones.ensures
