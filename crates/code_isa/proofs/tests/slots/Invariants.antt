use Rattle.std.proofs.Common.{◌≡◌, ◌+◌, replicate}
use Rattle.bit_ops.specs.Lists.{widths}
use Rattle.code_isa.proofs.tests.slots.Given as goal

abbrev pub invariant-loop : goal.invariant-loop
invariant-loop l = widths l.slots.items ≡ replicate (l.counter + 1) 1
