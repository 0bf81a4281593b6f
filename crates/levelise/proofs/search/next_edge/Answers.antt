use Rattle.std.proofs.Common.{sym}
use Rattle.levelise.proofs.Marks.{all_leave_before}
use Rattle.levelise.proofs.search.next_edge.Goals as goal

pub returns-in_default-clause-none : goal.returns-in_default-clause-none
returns-in_default-clause-none c =
    all_leave_before c.args.pending.now c.args.start c.in-Some.field-0.now c.requires (sym c.in-Some.ensures.value) c.if-edge-start.false
