use Rattle.std.proofs.Common.{ℕ, ◌<◌}
use Rattle.std.specs.List.{AllZip}
use Rattle.code_isa.specs.declared.machine.Machine.{Machine}
use Rattle.linked_units.specs.Units.{HasCode, kids_of, StandsFor}
use Rattle.linked_units.proofs.joining.are_joined.Given as goal

abbrev pub invariant-loop-n : goal.invariant-loop-n
invariant-loop-n l = (i : ℕ) (m : Machine) → i < l.n → HasCode l.units i m
    → AllZip (λ kid child. (kid < i) × StandsFor l.units kid child) (kids_of l.units i) m.kids
