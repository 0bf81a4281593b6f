use Rattle.std.proofs.Common.{take}
use Rattle.code_check.specs.code.Flow.{AreKnown}
use Rattle.code_check.proofs.flow.flow_of.Given as goal

abbrev pub invariant-loop-slot : goal.invariant-loop-slot
invariant-loop-slot l = AreKnown l.m l.regions.words l.flow (take l.slot-index l.order)
