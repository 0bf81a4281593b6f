use Rattle.std.proofs.Common.{◌≡◌, take}
use Rattle.code_check.proofs.reads.narrow.Given as goal

abbrev pub invariant-loop-slot : goal.invariant-loop-slot
invariant-loop-slot l = l.row.items ≡ take l.slot-index l.slots
