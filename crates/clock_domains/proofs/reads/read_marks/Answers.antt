use Rattle.std.proofs.Common.{◌≡◌, ◌∙◌, sym, List, length, false, rules}
use Rattle.std.specs.Prelude.{replicate}
use Rattle.std.specs.Result.{IsErrAnd}
use Rattle.std.proofs.lemmas.Grind.{common_steps}
use Rattle.sv_base.specs.declared.refusal.Refusal.{Refusal}
use Rattle.net_ir.proofs.Marking.{marks_tell}
use Rattle.clock_domains.specs.Each.{of_each}
use Rattle.clock_domains.specs.Reads.{reads_in}
use Rattle.clock_domains.specs.code.Walking.{driver_refusals}
use Rattle.clock_domains.proofs.Walks.{mark_each, mark_each_done, clean_each, each_done, found_each, finds_error}
use Rattle.clock_domains.proofs.reads.read_marks.Goals as goal

pub loop-driver-preserved : goal.loop-driver-preserved
loop-driver-preserved c = record {
  refused = clean_each (driver_refusals c.args.vars.now c.args.clocks.now) c.args.drivers.now c.loop-driver.faces.now c.loop-driver.driver-index
      c.driver-item.result
      c.child_ports-ports.result.now c.faces_behind-faces.result.now _ c.loop-driver-test.true c.driver-item.is c.child_ports-ports.ensures
      c.faces_behind-faces.ensures
      c.in_ok-mark_driver.ensures.refused c.loop-driver.invariant.refused;
  marks = mark_each reads_in c.args.drivers.now c.loop-driver.faces.now c.loop-driver.driver-index c.driver-item.result c.child_ports-ports.result.now
      c.faces_behind-faces.result.now c.loop-driver.marks.items c.mark_driver.new.marks.items _ c.loop-driver-test.true c.driver-item.is
      c.child_ports-ports.ensures
      c.faces_behind-faces.ensures c.in_ok-mark_driver.ensures.marks c.loop-driver.invariant.marks;
}

pub returns-in_err-mark_driver-clause-refused : goal.returns-in_err-mark_driver-clause-refused
returns-in_err-mark_driver-clause-refused c =
    let all : List Refusal = of_each (driver_refusals c.args.vars.now c.args.clocks.now) c.args.drivers.now c.args.children.now in
    let same : IsErrAnd c.from_residual-in_err-mark_driver.result (λ e. e ≡ c.in_err-mark_driver.field-0.0) = search rules in
    finds_error all c.from_residual-in_err-mark_driver.result c.in_err-mark_driver.field-0.0 same
    (found_each (driver_refusals c.args.vars.now c.args.clocks.now) c.args.drivers.now c.loop-driver.faces.now c.loop-driver.driver-index c.driver-item.result
    c.child_ports-ports.result.now all c.in_err-mark_driver.field-0.0 c.loop-driver-test.true c.driver-item.is c.child_ports-ports.ensures
    c.in_err-mark_driver.ensures.refused c.loop-driver.invariant.refused)

pub returns-clause-refused : goal.returns-clause-refused
returns-clause-refused c =
    sym c.loop-driver.invariant.refused
    ∙ each_done (driver_refusals c.args.vars.now c.args.clocks.now) c.args.drivers.now c.loop-driver.faces.now c.loop-driver.driver-index
    c.loop-driver-test.false

pub returns-clause-marks : goal.returns-clause-marks
returns-clause-marks c =
    let falses : c.in_ok-marks.marks.items ≡ replicate (length c.args.vars.now) false = search (rules, common_steps) in
    marks_tell (length c.args.vars.now) (of_each reads_in c.args.drivers.now c.args.children.now) c.in_ok-marks.marks.items c.loop-driver.marks.items falses
    (mark_each_done reads_in c.args.drivers.now c.loop-driver.faces.now c.loop-driver.driver-index c.loop-driver.marks.items _
    c.loop-driver-test.false c.loop-driver.invariant.marks)
