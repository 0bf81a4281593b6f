use Rattle.std.proofs.Common.{sym, ◌∙◌, true, false}
use Rattle.plain_run.specs.code.Timely.{is_timely}
use Rattle.plain_run.proofs.Marking.{each_fails, each_done}
use Rattle.plain_run.proofs.Timely.{timely_decided}
use Rattle.plain_run.proofs.plain.are_timely.Goals as goal

pub returns-then-not-is_timely : goal.returns-then-not-is_timely
returns-then-not-is_timely c =
    timely_decided c.args.drivers.now false
    (each_fails is_timely c.args.drivers.now c.loop-driver.driver-index c.driver-item.result _
    c.loop-driver-test.true c.driver-item.is (sym c.is_timely.ensures ∙ c.if-not-is_timely.true) c.loop-driver.invariant)

pub returns : goal.returns
returns c =
    timely_decided c.args.drivers.now true
    (each_done is_timely c.args.drivers.now c.loop-driver.driver-index _ c.loop-driver-test.false c.loop-driver.invariant)
