use Rattle.std.proofs.Common.{◌≡◌, drop}
use Rattle.std.specs.List.{position_from}
use Rattle.net_ir.specs.declared.statement.Arm.{Arm}
use Rattle.bit_ops.specs.Lists.{words, widths}
use Rattle.net_ir.specs.Statement.{has_label}
use Rattle.net_values.specs.code.Arms.{labelled_arm}
use Rattle.net_values.proofs.statement.labelled_arm.Given as goal

-- the first of the rest is the first of all
abbrev pub invariant-loop-number : goal.invariant-loop-number
invariant-loop-number l =
    position_from (λ (arm : Arm). has_label (widths l.seen) (words l.seen) l.word arm.labels) l.number (drop l.number l.arms) ≡ labelled_arm (widths l.seen) (words l.seen) l.word l.arms
