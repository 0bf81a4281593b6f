use Rattle.std.proofs.Common.{◌≡◌, drop}
use Rattle.net_ir.specs.Marks.{mark_all}
use Rattle.net_ir.specs.code.Classing.{labels_read}
use Rattle.net_ir.proofs.marks.mark_labels.Given as goal

-- the rest of the marks gives all of them
abbrev pub invariant-loop-label : goal.invariant-loop-label
invariant-loop-label l = mark_all (labels_read (drop l.label-index l.labels)) l.marks.items ≡ mark_all (labels_read l.labels) l.fn.marks.items
