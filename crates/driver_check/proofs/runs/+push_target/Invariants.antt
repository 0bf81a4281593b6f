use Rattle.std.proofs.Common.{◌≡◌, ◌++◌, drop}
use Rattle.std.specs.List.{flat_map}
use Rattle.driver_check.specs.code.Runs.{taken_by}
use Rattle.driver_check.proofs.runs.+push_target.Given as goal

abbrev pub decreases-push_target : goal.decreases-push_target
decreases-push_target l = goal.size-push_target l

-- what is taken so far and what the rest takes is all
abbrev pub invariant-loop-part : goal.invariant-loop-part
invariant-loop-part l = l.taken.items ++ flat_map (taken_by l.vars) (drop l.part-index l.part-items) ≡ l.fn.taken.items ++ taken_by l.vars l.target
