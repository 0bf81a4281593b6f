use Rattle.std.proofs.Common.{ℕ, ◌<◌, get_or}
use Rattle.code_isa.specs.declared.machine.Kid.{Kid}
use Rattle.linked_units.specs.Units.{StandsFor}
use Rattle.linked_units.proofs.joining.are_kids.Given as goal

abbrev pub invariant-loop-k : goal.invariant-loop-k
invariant-loop-k l = (i d : ℕ) (e : Kid) → i < l.k → (get_or l.kids i d < l.n) × StandsFor l.units (get_or l.kids i d) (get_or l.children i e)
