use Rattle.std.proofs.Common.{◌≡◌, drop}
use Rattle.std.specs.List.{flat_map}
use Rattle.net_ir.specs.Value.{reads_of}
use Rattle.net_values.proofs.term.+is_constant.Given as goal

abbrev pub decreases-is_constant : goal.decreases-is_constant
decreases-is_constant l = goal.size-is_constant l

-- what the rest reads is all that is read
abbrev pub invariant-loop-arg : goal.invariant-loop-arg
invariant-loop-arg l = reads_of l.term ≡ flat_map reads_of (drop l.arg-index l.arg-items)
