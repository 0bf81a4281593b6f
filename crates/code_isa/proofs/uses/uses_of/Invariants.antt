use Rattle.std.proofs.Common.{◌≡◌, ◌+◌}
use Rattle.code_isa.specs.Slots.{first_instruction}
use Rattle.code_isa.specs.Uses.{AreUsesUpTo}
use Rattle.code_isa.proofs.uses.uses_of.Given as goal

abbrev pub invariant-loop-i : goal.invariant-loop-i
invariant-loop-i l = record {
  place : l.reader ≡ first_instruction l.m + l.i-index;
  uses : AreUsesUpTo l.m l.rows.items l.i-index;
}
