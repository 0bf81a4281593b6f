use Rattle.std.proofs.Common.{sym, ap, ◌∙◌, ◌++◌}
use Rattle.std.specs.List.{flat_map}
use Rattle.net_ir.specs.Target.{target_vars}
use Rattle.plain_run.proofs.Marking.{parts_vars, push_more}
use Rattle.plain_run.proofs.marks.+push_target.Goals as goal

pub loop-part-init : goal.loop-part-init
loop-part-init t c =
    ap (λ xs. c.args.names.now.items ++ flat_map target_vars xs) c.as_slice-part-items.ensures
    ∙ sym (ap (λ vars. c.args.names.now.items ++ vars) (ap target_vars c.in-List.is ∙ parts_vars c.in-List.parts))

pub loop-part-preserved : goal.loop-part-preserved
loop-part-preserved t c =
    push_more target_vars c.as_slice-part-items.result.now c.loop-part.part-index c.part-item.result
    c.loop-part.names.items c.push_target.new.names.items _ c.loop-part-test.true c.part-item.is c.in_ok-push_target-in-List.ensures c.loop-part.invariant
