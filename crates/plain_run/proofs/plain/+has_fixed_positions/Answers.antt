use Rattle.std.proofs.Common.{sym, ap, ◌∙◌}
use Rattle.std.specs.List.{list_all}
use Rattle.plain_run.specs.code.Timely.{has_fixed_positions}
use Rattle.plain_run.proofs.Timely.{parts_fixed}
use Rattle.plain_run.proofs.plain.+has_fixed_positions.Goals as goal

pub loop-part-init : goal.loop-part-init
loop-part-init t c =
    ap (list_all has_fixed_positions) c.as_slice-part-items.ensures
    ∙ sym (ap has_fixed_positions c.in-List.is ∙ parts_fixed c.in-List.parts)
