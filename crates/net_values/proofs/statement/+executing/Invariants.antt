use Rattle.std.proofs.Common.{◌≡◌, drop}
use Rattle.std.specs.List.{flat_map}
use Rattle.bit_ops.specs.Lists.{words, widths}
use Rattle.net_ir.specs.Target.{overlaid}
use Rattle.net_ir.specs.Statement.{clocked_writes}
use Rattle.net_values.proofs.statement.+executing.Given as goal

abbrev pub decreases-execute : goal.decreases-execute
decreases-execute l = goal.size-execute l

abbrev pub decreases-execute_arm : goal.decreases-execute_arm
decreases-execute_arm l = goal.size-execute_arm l

-- the rest of the parts leaves what all of them leave
abbrev pub invariant-execute-loop-part : goal.invariant-execute-loop-part
invariant-execute-loop-part l = record {
  same_widths : widths l.values ≡ widths l.fn.values;
  so_far : overlaid (words l.values) (flat_map (clocked_writes l.vars (words l.seen)) (drop l.part-index l.part-items))
      ≡ overlaid (words l.fn.values) (clocked_writes l.vars (words l.seen) l.body);
}
