use Rattle.clock_domains.specs.Clocks.{clocks_at}
use Rattle.clock_domains.proofs.Walks.{mark_each, mark_each_done}
use Rattle.clock_domains.proofs.clocks.mark_clocks.Goals as goal

pub loop-driver-preserved : goal.loop-driver-preserved
loop-driver-preserved c =
    mark_each clocks_at c.args.drivers.now c.loop-driver.faces.now c.loop-driver.driver-index c.driver-item.result c.child_ports.result.now
    c.faces_behind-faces.result.now
    c.loop-driver.marks.items c.mark_driver.new.marks.items _ c.loop-driver-test.true c.driver-item.is c.child_ports.ensures
    c.faces_behind-faces.ensures c.mark_driver.ensures c.loop-driver.invariant

pub returns : goal.returns
returns c = mark_each_done clocks_at c.args.drivers.now c.loop-driver.faces.now c.loop-driver.driver-index c.loop-driver.marks.items _
    c.loop-driver-test.false c.loop-driver.invariant
