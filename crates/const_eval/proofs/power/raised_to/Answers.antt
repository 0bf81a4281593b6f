use Rattle.std.proofs.Common.{◌^◌, ◌<◌, arith}
use Rattle.const_eval.proofs.Powers.{begun, even_halved, odd_halved, exhausted}
use Rattle.const_eval.proofs.power.raised_to.Goals as goal
use Rattle.const_eval.proofs.power.raised_to.Goals.{then-left-eq1, else-left-eq1}

pub loop-left-init : goal.loop-left-init
loop-left-init c =
    let first = begun (2 ^ c.args.a.width) (c.args.a.word ^ c.args.exponent) in
    record { width = cc; base_width = cc; word = cc }

pub loop-left-preserved : goal.loop-left-preserved
loop-left-preserved c =
    let m = 2 ^ c.args.a.width in
    elim c.if-left-eq1.branch [
      | then-left-eq1 w ↦
          (let halved = odd_halved m c.loop-left.result.word c.loop-left.base.word c.loop-left.left w.if-left-eq1.true in
          record { width = cc; base_width = cc; word = cc })
      | else-left-eq1 w ↦
          (let halved = even_halved m c.loop-left.result.word c.loop-left.base.word c.loop-left.left (omega arith) in
          record { width = cc; base_width = cc; word = cc })
    ]

pub returns-clause-word : goal.returns-clause-word
returns-clause-word c =
    let below : c.loop-left.result.word < 2 ^ c.args.a.width = rw c.loop-left.invariant.width at c.loop-left.result.fits in
    exhausted _ _ c.loop-left.base.word c.loop-left.left _ c.loop-left-test.false below c.loop-left.invariant.word
