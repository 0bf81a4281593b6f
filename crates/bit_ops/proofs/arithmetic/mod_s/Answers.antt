use Rattle.std.proofs.Common.{ℕ, ◌<◌, ◌^◌, subst}
use Rattle.bit_ops.proofs.Signed.{remainder_positive}
use Rattle.bit_ops.proofs.arithmetic.mod_s.Goals as goal

pub returns-else-is_negative-clause-value : goal.returns-else-is_negative-clause-value
returns-else-is_negative-clause-value c =
    remainder_positive c.args.a.width c.args.b.width c.args.a.word c.args.b.word c.magnitude.result c.magnitude-2.result
    c.new-remainder.result.word c.is_negative.result c.requires.1 c.args.a.fits c.if-b-eq0.false
    c.is_negative.ensures c.if-is_negative.false
    (subst (λ (k : ℕ). c.new-remainder.result.word < 2 ^ k) c.new-remainder.ensures.width c.new-remainder.result.fits) c.magnitude.ensures
    c.magnitude-2.ensures c.new-remainder.ensures.word
