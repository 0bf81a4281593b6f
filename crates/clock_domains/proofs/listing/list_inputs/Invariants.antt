use Rattle.std.proofs.Common.{◌≡◌, ◌++◌, length}
use Rattle.clock_domains.specs.code.Walking.{inputs_read}
use Rattle.clock_domains.proofs.listing.list_inputs.Given as goal

-- those that are listed and those of the rest are all
abbrev pub invariant-loop-rest : goal.invariant-loop-rest
invariant-loop-rest l = l.reads.items ++ inputs_read l.ports l.rest ≡ l.fn.reads.items ++ inputs_read l.ports l.inputs

abbrev pub decreases-loop-rest : goal.decreases-loop-rest
decreases-loop-rest l = length l.rest
