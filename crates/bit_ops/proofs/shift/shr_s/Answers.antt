use Rattle.std.proofs.Common.{arith}
use Rattle.bit_ops.proofs.Signed.{shifted_below, shifted_past}
use Rattle.bit_ops.proofs.shift.shr_s.Goals as goal
use Rattle.bit_ops.proofs.shift.shr_s.Goals.{then-b-from, else-b-from}

pub returns-clause-value : goal.returns-clause-value
returns-clause-value c =
    elim c.if-b-from.branch [
      | then-b-from w ↦ shifted_below c.args.a.width c.args.a.word c.args.b.word c.if-b-from.places c.slice.result.width c.slice.result.word
          c.sext.result.word w.places-is (omega arith) c.args.a.fits c.slice.ensures.width c.slice.ensures.value c.sext.ensures.value
      | else-b-from w ↦ shifted_past c.args.a.width c.args.a.word c.args.b.word c.if-b-from.places c.slice.result.width c.slice.result.word
          c.sext.result.word w.places-is c.args.a.positive (omega arith) c.args.a.fits c.slice.ensures.width c.slice.ensures.value c.sext.ensures.value
    ]
