use Rattle.std.proofs.Common.{take}
use Rattle.sealed_library.specs.Fields.{repeated}
use Rattle.sealed_library.specs.Version1.{port_field}
use Rattle.sealed_library.specs.code.Writing.{Writes}
use Rattle.sealed_library.proofs.writing.push_ports.Given as goal

-- what is written is the first items
abbrev pub invariant-loop-port : goal.invariant-loop-port
invariant-loop-port l = Writes (repeated port_field l.port-index) l.fn.into.items l.into.items (take l.port-index l.ports)
