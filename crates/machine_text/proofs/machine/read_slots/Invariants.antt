use Rattle.std.proofs.Common.{◌≡◌, length}
use Rattle.machine_text.proofs.machine.read_slots.Given as goal

abbrev pub invariant-loop : goal.invariant-loop
invariant-loop l = length l.slots ≡ l.counter
