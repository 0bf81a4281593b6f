use Rattle.std.proofs.Common.{◌≡◌, ◌∙◌, ap, length, false, rules}
use Rattle.std.specs.Prelude.{replicate}
use Rattle.std.specs.List.{flat_map}
use Rattle.std.proofs.lemmas.Grind.{common_steps}
use Rattle.net_ir.specs.Drive.{driver_clocks}
use Rattle.net_ir.specs.Marks.{mark_all}
use Rattle.net_ir.proofs.Marking.{mark_more, mark_done, marks_tell}
use Rattle.net_ir.proofs.marks.clock_marks.Goals as goal

pub loop-driver-preserved : goal.loop-driver-preserved
loop-driver-preserved c =
    mark_more driver_clocks c.as_slice-driver-items.result.now c.loop-driver.driver-index c.driver-item.result c.loop-driver.marks.items c.mark_clocks.new.marks.items _ c.loop-driver-test.true c.driver-item.is c.mark_clocks.ensures c.loop-driver.invariant

pub returns : goal.returns
returns c =
    let falses : c.in_ok-marks.marks.items ≡ replicate (length c.args.spec.now.vars) false = search (rules, common_steps) in
    marks_tell (length c.args.spec.now.vars) (flat_map driver_clocks c.args.spec.now.drivers) c.in_ok-marks.marks.items c.loop-driver.marks.items falses
    (mark_done driver_clocks c.as_slice-driver-items.result.now c.loop-driver.driver-index c.loop-driver.marks.items _ c.loop-driver-test.false c.loop-driver.invariant
    ∙ ap (λ ds. mark_all (flat_map driver_clocks ds) c.in_ok-marks.marks.items) c.as_slice-driver-items.ensures)
