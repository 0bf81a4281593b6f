use Rattle.std.proofs.Common.{arith}
use Rattle.driver_check.proofs.Marking.{marked_first, marked_more, marked_all}
use Rattle.driver_check.proofs.driven.mark_run.Goals as goal

pub loop-k-init : goal.loop-k-init
loop-k-init c = marked_first c.args.run c.args.number c.args.row.now.items

pub loop-k-preserved : goal.loop-k-preserved
loop-k-preserved c =
    marked_more c.args.run c.args.number c.loop-k.k c.args.row.now.items c.loop-k.row.items c.loop-k.auto.k c.loop-k-test.true c.requires c.loop-k.invariant

pub returns : goal.returns
returns c = marked_all c.args.run c.args.number c.loop-k.k c.args.row.now.items c.loop-k.row.items (let past = c.loop-k-test.false in omega (arith, past)) c.loop-k.invariant
