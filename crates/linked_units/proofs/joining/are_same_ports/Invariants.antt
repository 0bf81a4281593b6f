use Rattle.std.proofs.Common.{◌≡◌, ℕ, ◌<◌, get_or}
use Rattle.sv_base.specs.declared.face.Port.{Port}
use Rattle.linked_units.proofs.joining.are_same_ports.Given as goal

abbrev pub invariant-loop-k : goal.invariant-loop-k
invariant-loop-k l = (i : ℕ) (d : Port) → i < l.k → get_or l.a i d ≡ get_or l.b i d
