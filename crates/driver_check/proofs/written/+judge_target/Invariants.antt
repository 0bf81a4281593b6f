use Rattle.std.proofs.Common.{◌≡◌, drop}
use Rattle.std.specs.List.{flat_map}
use Rattle.driver_check.specs.Written.{refused_names}
use Rattle.driver_check.proofs.written.+judge_target.Given as goal

abbrev pub decreases-judge_target : goal.decreases-judge_target
decreases-judge_target l = goal.size-judge_target l

-- what the rest refuses is all that is refused
abbrev pub invariant-loop-part : goal.invariant-loop-part
invariant-loop-part l = refused_names l.vars l.within l.target ≡ flat_map (refused_names l.vars l.within) (drop l.part-index l.part-items)
