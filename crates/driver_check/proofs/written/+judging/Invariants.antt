use Rattle.std.proofs.Common.{◌≡◌, drop}
use Rattle.std.specs.List.{flat_map}
use Rattle.driver_check.specs.Written.{refused_assigns, refused_in_arm}
use Rattle.driver_check.proofs.written.+judging.Given as goal

abbrev pub decreases-judge_arm : goal.decreases-judge_arm
decreases-judge_arm l = goal.size-judge_arm l

abbrev pub decreases-judge_statement : goal.decreases-judge_statement
decreases-judge_statement l = goal.size-judge_statement l

-- what the rest refuses is all that is refused
abbrev pub invariant-judge_statement-loop-part : goal.invariant-judge_statement-loop-part
invariant-judge_statement-loop-part l =
    refused_assigns l.vars l.within l.statement ≡ flat_map (refused_assigns l.vars l.within) (drop l.part-index l.part-items)

abbrev pub invariant-judge_statement-loop-arm : goal.invariant-judge_statement-loop-arm
invariant-judge_statement-loop-arm l =
    refused_assigns l.vars l.within l.statement ≡ flat_map (refused_in_arm l.vars l.within) (drop l.arm-index l.arm-items)
