use Rattle.std.proofs.Common.{◌≡◌, drop}
use Rattle.std.specs.List.{flat_map}
use Rattle.driver_check.specs.Written.{refused_output}
use Rattle.driver_check.proofs.written.judge_outputs.Given as goal

-- what the rest refuses is all that is refused
abbrev pub invariant-loop-output : goal.invariant-loop-output
invariant-loop-output l = flat_map (refused_output l.vars) l.outputs ≡ flat_map (refused_output l.vars) (drop l.output-index l.outputs)
