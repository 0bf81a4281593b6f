use Rattle.std.proofs.Common.{◌≡◌, ◌++◌, drop, map}
use Rattle.std.specs.List.{flat_map}
use Rattle.net_ir.specs.declared.design.Driver.{Driver}
use Rattle.driver_check.specs.Driven.{sources_in}
use Rattle.driver_check.specs.Taking.{taken_source}
use Rattle.driver_check.proofs.sources.written_bits.Given as goal

-- the sources so far and those of the rest make all
abbrev pub invariant-loop-driver : goal.invariant-loop-driver
invariant-loop-driver l =
    l.sources.items ++ flat_map (λ (d : Driver). map (taken_source l.spec.vars) (sources_in d)) (drop l.driver-index l.driver-items)
    ≡ flat_map (λ (d : Driver). map (taken_source l.spec.vars) (sources_in d)) l.spec.drivers
