use Rattle.std.proofs.Common.{ℕ, ◌<◌, ◌^◌, subst}
use Rattle.bit_ops.proofs.Signed.{quotient_same_sign}
use Rattle.bit_ops.proofs.arithmetic.div_s.Goals as goal

pub returns-then-is_negative-clause-value : goal.returns-then-is_negative-clause-value
returns-then-is_negative-clause-value c =
    quotient_same_sign c.args.a.width c.args.b.width c.args.a.word c.args.b.word c.magnitude.result c.magnitude-2.result
    c.new-quotient.result.word c.is_negative.result c.is_negative-2.result c.requires.1 c.args.a.fits c.args.b.fits c.if-b-eq0.false
    c.is_negative.ensures c.is_negative-2.ensures c.if-is_negative.true
    (subst (λ (k : ℕ). c.new-quotient.result.word < 2 ^ k) c.new-quotient.ensures.width c.new-quotient.result.fits) c.magnitude.ensures
    c.magnitude-2.ensures c.new-quotient.ensures.word
