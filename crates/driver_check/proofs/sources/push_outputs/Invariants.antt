use Rattle.std.proofs.Common.{◌≡◌, ◌++◌}
use Rattle.driver_check.specs.Taking.{taken_below}
use Rattle.driver_check.proofs.sources.push_outputs.Given as goal

-- the outputs of the ports so far are there
abbrev pub invariant-loop-port : goal.invariant-loop-port
invariant-loop-port l = l.sources.items ≡ l.fn.sources.items ++ taken_below l.vars l.outputs l.port
