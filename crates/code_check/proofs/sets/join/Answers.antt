use Rattle.std.proofs.Common.{arith}
use Rattle.code_check.proofs.Bits.{joined_rows}
use Rattle.code_check.proofs.sets.join.Goals as goal

pub returns-clause-joined : goal.returns-clause-joined
returns-clause-joined c = joined_rows c.args.row.now.items c.args.more.now c.loop-k.row.items c.loop-k.invariant.size c.requires (λ j low. c.loop-k.invariant.done j (omega (arith, c.loop-k-test.false)))
