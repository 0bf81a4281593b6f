use Rattle.std.proofs.Common.{take}
use Rattle.code_check.specs.code.Flow.{IsDeepest}
use Rattle.code_check.proofs.flow.deepest.Given as goal

abbrev pub invariant-loop-slot : goal.invariant-loop-slot
invariant-loop-slot l = IsDeepest l.depths (take l.slot-index l.slots) l.most
