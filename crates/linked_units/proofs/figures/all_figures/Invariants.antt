use Rattle.std.proofs.Common.{◌≡◌, ℕ, ◌<◌, length}
use Rattle.code_isa.specs.declared.machine.Machine.{Machine}
use Rattle.code_isa.specs.Checks.{IsChecked}
use Rattle.linked_units.specs.Units.{HasCode}
use Rattle.linked_units.specs.code.Counting.{AreFigures}
use Rattle.linked_units.proofs.figures.all_figures.Given as goal

abbrev pub invariant-loop-unit : goal.invariant-loop-unit
invariant-loop-unit l = record {
  sized : length l.figures.items ≡ l.unit-index;
  right : AreFigures l.figures.items l.units;
  checked : (n : ℕ) (m : Machine) → n < l.unit-index → HasCode l.units n m → IsChecked m;
}
