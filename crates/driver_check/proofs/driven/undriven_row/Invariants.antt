use Rattle.std.proofs.Common.{◌≡◌, replicate}
use Rattle.std.specs.Prelude.{None}
use Rattle.driver_check.proofs.driven.undriven_row.Given as goal

abbrev pub invariant-loop : goal.invariant-loop
invariant-loop l = l.row.items ≡ replicate l.counter None
