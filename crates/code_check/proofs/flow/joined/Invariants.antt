use Rattle.std.proofs.Common.{◌≡◌, ℕ, length, take}
use Rattle.std.specs.Prelude.{◌↔◌}
use Rattle.code_check.specs.code.Sets.{IsIn, IsInSome}
use Rattle.code_check.proofs.flow.joined.Given as goal

abbrev pub invariant-loop-slot : goal.invariant-loop-slot
invariant-loop-slot l = record {
  size : length l.row.items ≡ l.words;
  exact : (p : ℕ) → IsIn l.row.items p ↔ IsInSome l.inputs (take l.slot-index l.slots) p;
}
