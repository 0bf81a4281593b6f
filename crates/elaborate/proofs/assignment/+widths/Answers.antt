use Rattle.std.proofs.Common.{◌∙◌, ◌-◌, ◌^◌, arith, sym, ap}
use Rattle.std.specs.Prelude.{min}
use Rattle.net_ir.specs.Target.{target_width}
use Rattle.elaborate.specs.code.Selecting.{parts_width}
use Rattle.elaborate.proofs.Parts.{parts_together, width_more, width_whole}
use Rattle.elaborate.proofs.assignment.+widths.Goals as goal

pub list_width-loop-part-init : goal.list_width-loop-part-init
list_width-loop-part-init t c = record { fits = omega arith; all = omega arith }

pub list_width-loop-part-preserved : goal.list_width-loop-part-preserved
list_width-loop-part-preserved t c = record {
  fits = omega (arith, c.saturating_add-width.type_inv);
  all =
      width_more c.args.vars.now c.args.parts.now c.loop-part.part-index c.part-item.result c.loop-part.width c.target_width.result c.saturating_add-width.result _
      c.loop-part-test.true c.part-item.is c.target_width.ensures c.saturating_add-width.ensures c.loop-part.invariant.all;
}

pub list_width-returns : goal.list_width-returns
list_width-returns t c = width_whole c.args.vars.now c.args.parts.now c.loop-part.part-index c.loop-part.width _ c.loop-part-test.false c.loop-part.invariant.fits c.loop-part.invariant.all

pub target_width-returns-in-List : goal.target_width-returns-in-List
target_width-returns-in-List t c =
    c.list_width.ensures
    ∙ ap (λ n. min n (2 ^ 64 - 1))
    (ap (parts_width c.args.vars.now) c.as_slice.ensures ∙ sym (ap (target_width c.args.vars.now) c.in-List.is ∙ parts_together c.args.vars.now c.in-List.parts))
