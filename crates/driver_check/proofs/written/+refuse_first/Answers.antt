use Rattle.std.proofs.Common.{sym, ap, ◌∙◌}
use Rattle.std.specs.List.{flat_map}
use Rattle.driver_check.specs.Written.{names_of}
use Rattle.driver_check.proofs.Opened.{parts_names}
use Rattle.driver_check.proofs.written.+refuse_first.Goals as goal

pub loop-part-init : goal.loop-part-init
loop-part-init t c = ap names_of c.in-List.is ∙ parts_names c.in-List.parts ∙ sym (ap (flat_map names_of) c.as_slice-part-items.ensures)
