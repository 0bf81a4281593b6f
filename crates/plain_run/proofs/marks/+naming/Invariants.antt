use Rattle.std.proofs.Common.{◌≡◌, ◌++◌, drop}
use Rattle.std.specs.List.{flat_map}
use Rattle.plain_run.specs.code.Marks.{named_in, named_in_arm}
use Rattle.plain_run.proofs.marks.+naming.Given as goal

abbrev pub decreases-push_targets : goal.decreases-push_targets
decreases-push_targets l = goal.size-push_targets l

abbrev pub decreases-push_arm : goal.decreases-push_arm
decreases-push_arm l = goal.size-push_arm l

-- the names so far and those of the rest make all
abbrev pub invariant-push_targets-loop-part : goal.invariant-push_targets-loop-part
invariant-push_targets-loop-part l =
    l.names.items ++ flat_map named_in (drop l.part-index l.part-items) ≡ l.fn.names.items ++ named_in l.statement

abbrev pub invariant-push_targets-loop-arm : goal.invariant-push_targets-loop-arm
invariant-push_targets-loop-arm l =
    l.names.items ++ flat_map named_in_arm (drop l.arm-index l.arm-items) ≡ l.fn.names.items ++ named_in l.statement
