use Rattle.std.proofs.Common.{◌≡◌, drop}
use Rattle.std.specs.List.{flat_map}
use Rattle.driver_check.specs.Written.{refused_driver, wrong_assigns}
use Rattle.driver_check.proofs.written.written_rightly.Given as goal

-- what the rest refuses is all that is refused
abbrev pub invariant-loop-driver : goal.invariant-loop-driver
invariant-loop-driver l = wrong_assigns l.spec ≡ flat_map (refused_driver l.spec.vars) (drop l.driver-index l.driver-items)
