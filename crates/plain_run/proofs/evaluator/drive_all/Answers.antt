use Rattle.std.proofs.Common.{◌∙◌}
use Rattle.bit_ops.specs.Lists.{words}
use Rattle.net_ir.specs.Lawful.{IsLawfulDriver}
use Rattle.plain_run.specs.Plain.{IsTimely}
use Rattle.plain_run.proofs.Passes.{all_at, run_more}
use Rattle.plain_run.proofs.evaluator.drive_all.Goals as goal

pub drive-requires-clause-lawful : goal.drive-requires-clause-lawful
drive-requires-clause-lawful c =
    all_at (IsLawfulDriver c.args.vars.now) c.args.drivers.now c.loop-driver.driver-index c.driver-item.result
    c.requires.lawful c.loop-driver-test.true c.driver-item.is

pub drive-requires-clause-timely : goal.drive-requires-clause-timely
drive-requires-clause-timely c =
    all_at IsTimely c.args.drivers.now c.loop-driver.driver-index c.driver-item.result c.requires.timely c.loop-driver-test.true c.driver-item.is

pub loop-driver-preserved : goal.loop-driver-preserved
loop-driver-preserved c = record {
  same_widths = c.drive.ensures.widths;
  same_words = run_more c.args.vars.now c.args.drivers.now c.loop-driver.driver-index c.driver-item.result
      (words c.loop-driver.values) (words c.drive.new.values)
      c.loop-driver-test.true c.driver-item.is c.drive.ensures.words ∙ c.loop-driver.invariant.same_words;
}
