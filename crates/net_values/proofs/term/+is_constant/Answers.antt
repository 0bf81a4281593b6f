use Rattle.std.proofs.Common.{sym, ap, ◌∙◌}
use Rattle.std.specs.List.{flat_map}
use Rattle.net_ir.specs.Value.{reads_of}
use Rattle.net_values.proofs.TermReads.{reads_apply}
use Rattle.net_values.proofs.term.+is_constant.Goals as goal

pub loop-arg-init : goal.loop-arg-init
loop-arg-init t c =
    ap reads_of c.in-Apply.is ∙ reads_apply c.in-Apply.op c.in-Apply.width c.in-Apply.lo c.in-Apply.args ∙ sym (ap (flat_map reads_of) c.as_slice-arg-items.ensures)
