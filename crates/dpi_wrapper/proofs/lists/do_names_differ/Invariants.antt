use Rattle.std.proofs.Common.{◌≢◌, ℕ, ◌<◌, get_or}
use Rattle.sv_base.specs.declared.face.Port.{Port}
use Rattle.dpi_wrapper.proofs.lists.do_names_differ.Given as goal

abbrev pub invariant-loop-k : goal.invariant-loop-k
invariant-loop-k l = (i j : ℕ) (d : Port) → i < j → j < l.k → (get_or l.ports i d).name ≢ (get_or l.ports j d).name
