use Rattle.std.proofs.Common.{◌≡◌, map, take}
use Rattle.bit_ops.specs.Lists.{widths}
use Rattle.sv_base.specs.declared.face.Port.{Port}
use Rattle.trace_writer.proofs.tests.face_for.Given as goal

abbrev pub invariant-loop-value : goal.invariant-loop-value
invariant-loop-value l = map (λ (p : Port). p.width) l.ports.items ≡ widths (take l.value-index l.values)
