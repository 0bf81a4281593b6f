use Rattle.std.proofs.Common.{◌≡◌, ◌++◌, drop}
use Rattle.std.specs.List.{flat_map}
use Rattle.driver_check.specs.code.Runs.{taken_in, taken_in_arm}
use Rattle.driver_check.proofs.runs.+taking.Given as goal

abbrev pub decreases-push_statement : goal.decreases-push_statement
decreases-push_statement l = goal.size-push_statement l

abbrev pub decreases-push_arm : goal.decreases-push_arm
decreases-push_arm l = goal.size-push_arm l

-- what is taken so far and what the rest takes is all
abbrev pub invariant-push_statement-loop-part : goal.invariant-push_statement-loop-part
invariant-push_statement-loop-part l =
    l.taken.items ++ flat_map (taken_in l.vars) (drop l.part-index l.part-items) ≡ l.fn.taken.items ++ taken_in l.vars l.statement

abbrev pub invariant-push_statement-loop-arm : goal.invariant-push_statement-loop-arm
invariant-push_statement-loop-arm l =
    l.taken.items ++ flat_map (taken_in_arm l.vars) (drop l.arm-index l.arm-items) ≡ l.fn.taken.items ++ taken_in l.vars l.statement
