use Rattle.std.proofs.Common.{◌≡◌, ◌++◌, drop}
use Rattle.std.specs.List.{flat_map}
use Rattle.net_ir.specs.Target.{target_vars}
use Rattle.plain_run.proofs.marks.+push_target.Given as goal

abbrev pub decreases-push_target : goal.decreases-push_target
decreases-push_target l = goal.size-push_target l

-- the names so far and those of the rest make all
abbrev pub invariant-loop-part : goal.invariant-loop-part
invariant-loop-part l = l.names.items ++ flat_map target_vars (drop l.part-index l.part-items) ≡ l.fn.names.items ++ target_vars l.target
