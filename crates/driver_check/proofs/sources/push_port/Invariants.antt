use Rattle.std.proofs.Common.{◌≡◌, ◌++◌, drop}
use Rattle.std.specs.List.{flat_map}
use Rattle.driver_check.specs.Taking.{taken_at_port}
use Rattle.driver_check.proofs.sources.push_port.Given as goal

-- the sources so far and those of the rest make all
abbrev pub invariant-loop-output : goal.invariant-loop-output
invariant-loop-output l =
    l.sources.items ++ flat_map (taken_at_port l.vars l.port) (drop l.output-index l.outputs) ≡ l.fn.sources.items ++ flat_map (taken_at_port l.vars l.port) l.outputs
