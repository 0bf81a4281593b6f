use Rattle.std.proofs.Common.{◌≡◌, ◌++◌, map, length}
use Rattle.std.specs.Option.{option_copied}
use Rattle.module_header.specs.Header as spec
use Rattle.module_header.proofs.header.entries_of.Given as goal

-- those that were found and those behind them are all
abbrev pub invariant-loop-rest : goal.invariant-loop-rest
invariant-loop-rest l = map spec.entry_of l.found.items ++ spec.entries_behind l.kind (option_copied l.shape) l.rest ≡ spec.entries l.params

abbrev pub decreases-loop-rest : goal.decreases-loop-rest
decreases-loop-rest l = length l.rest
