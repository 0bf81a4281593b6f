use Rattle.std.proofs.Common.{◌≡◌, map}
use Rattle.linked_units.specs.code.Sharing.{unit_of}
use Rattle.linked_units.proofs.linked.share.Given as goal

abbrev pub invariant-loop-unit : goal.invariant-loop-unit
invariant-loop-unit l = map unit_of l.all.items ≡ l.yielded
