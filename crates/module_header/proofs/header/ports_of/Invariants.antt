use Rattle.std.proofs.Common.{◌≡◌, ◌++◌, map, length}
use Rattle.std.specs.Option.{option_copied}
use Rattle.module_header.specs.Header as spec
use Rattle.module_header.proofs.header.ports_of.Given as goal

-- those that were found and those behind them are all
abbrev pub invariant-loop-rest : goal.invariant-loop-rest
invariant-loop-rest l = map spec.port_of l.found.items ++ spec.ports_behind (option_copied l.direction) (option_copied l.shape) l.rest ≡ spec.ports l.declared

abbrev pub decreases-loop-rest : goal.decreases-loop-rest
decreases-loop-rest l = length l.rest
