use Rattle.std.proofs.Common.{◌≡◌, drop}
use Rattle.bit_ops.specs.Lists.{words, widths}
use Rattle.net_ir.specs.Statement.{has_label}
use Rattle.net_values.proofs.statement.has_label.Given as goal

-- the rest has such a label just where all of them do
abbrev pub invariant-loop-label : goal.invariant-loop-label
invariant-loop-label l = has_label (widths l.seen) (words l.seen) l.word (drop l.label-index l.labels) ≡ has_label (widths l.seen) (words l.seen) l.word l.labels
