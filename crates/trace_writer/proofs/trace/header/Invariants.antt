use Rattle.std.proofs.Common.{◌≡◌, ◌++◌, drop}
use Rattle.std.specs.Prelude.{codes}
use Rattle.std.specs.List.{flat_map}
use Rattle.sv_base.specs.TraceText.{heading}
use Rattle.trace_writer.proofs.trace.header.Given as goal

-- the ports so far and those to come make all
abbrev pub invariant-loop-port : goal.invariant-loop-port
invariant-loop-port l = l.text.items ++ flat_map heading (drop l.port-index l.port-items) ≡ codes "step" ++ flat_map heading l.face.ports
