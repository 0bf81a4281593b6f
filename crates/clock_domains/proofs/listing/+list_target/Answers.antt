use Rattle.std.proofs.Common.{sym, ap, ◌∙◌, ◌++◌}
use Rattle.std.specs.List.{flat_map}
use Rattle.net_ir.specs.Target.{target_reads}
use Rattle.net_ir.proofs.Marking.{parts_reads}
use Rattle.clock_domains.proofs.listing.+list_target.Goals as goal

pub loop-part-init : goal.loop-part-init
loop-part-init t c =
    let before = c.args.reads.now.items in
    ap (λ xs. before ++ flat_map target_reads xs) c.as_slice-part-items.ensures
    ∙ ap (λ reads. before ++ reads) (sym (ap target_reads c.in-List.is ∙ parts_reads c.in-List.parts))
