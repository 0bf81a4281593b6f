use Rattle.std.proofs.Common.{◌≡◌, take}
use Rattle.bit_ops.specs.Lists.{widths}
use Rattle.net_ir.specs.Value.{widths_of}
use Rattle.width_rules_tests.proofs.tests.values_of.Given as goal

abbrev pub invariant-loop-number : goal.invariant-loop-number
invariant-loop-number g l = widths l.values.items ≡ widths_of (take l.number l.vars)
