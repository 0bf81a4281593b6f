use Rattle.code_isa.proofs.Running.{IsUnderway}
use Rattle.code_isa.proofs.run.run_slots.Given as goal

abbrev pub invariant-loop-i : goal.invariant-loop-i
invariant-loop-i l = IsUnderway l.m l.fn.slots.items l.slots.items l.at l.i-index
