use Rattle.std.proofs.Common.{◌≡◌, drop, max}
use Rattle.driver_check.specs.Driven.{port_bound}
use Rattle.driver_check.proofs.sources.port_bound.Given as goal

-- the bound so far and that of the rest give that of all
abbrev pub invariant-loop-output : goal.invariant-loop-output
invariant-loop-output l = max l.bound (port_bound (drop l.output-index l.outputs)) ≡ port_bound l.outputs
