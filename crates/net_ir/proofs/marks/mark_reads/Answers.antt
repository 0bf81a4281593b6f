use Rattle.std.proofs.Common.{sym, ap, ◌∙◌}
use Rattle.net_ir.specs.Value.{reads_of}
use Rattle.net_ir.specs.Target.{target_reads}
use Rattle.net_ir.specs.Drive.{driver_reads}
use Rattle.net_ir.specs.Marks.{mark_all}
use Rattle.net_ir.proofs.Marking.{mark_both}
use Rattle.net_ir.proofs.marks.mark_reads.Goals as goal

pub returns-in-Assign : goal.returns-in-Assign
returns-in-Assign c =
    mark_both (target_reads c.in-Assign.target) (reads_of c.in-Assign.value) c.args.marks.now.items c.mark_target.new.marks.items c.mark_term.new.marks.items
    c.mark_target.ensures c.mark_term.ensures
    ∙ ap (λ d. mark_all (driver_reads d) c.args.marks.now.items) (sym c.in-Assign.is)
