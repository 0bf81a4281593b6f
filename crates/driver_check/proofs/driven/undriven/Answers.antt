use Rattle.std.proofs.Common.{◌≡◌, ◌∙◌, replicate}
use Rattle.std.specs.Prelude.{None}
use Rattle.driver_check.specs.code.Marks.{undriven}
use Rattle.driver_check.proofs.Rows.{mapped_more}
use Rattle.driver_check.proofs.driven.undriven.Goals as goal

pub loop-var-preserved : goal.loop-var-preserved
loop-var-preserved c =
    let made : c.in_ok-row.row.items ≡ replicate c.var-item.result.width None = c.in_ok-row.ensures in
    mapped_more undriven c.args.vars.now c.loop-var.var-index c.var-item.result c.loop-var.rows.items c.push.new.self.items c.from_vec.result
    c.loop-var-test.true c.var-item.is (c.from_vec.ensures ∙ made) c.in_ok-push.ensures.items c.loop-var.invariant
