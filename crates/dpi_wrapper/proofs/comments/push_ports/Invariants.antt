use Rattle.std.proofs.Common.{◌≡◌, ◌++◌, drop}
use Rattle.std.specs.List.{flat_map}
use Rattle.dpi_wrapper.specs.WrapperText.{port_line}
use Rattle.dpi_wrapper.proofs.comments.push_ports.Given as goal

-- what is written and what is to come make all
abbrev pub invariant-loop-port : goal.invariant-loop-port
invariant-loop-port l = l.into.items ++ flat_map port_line (drop l.port-index l.ports) ≡ l.fn.into.items ++ flat_map port_line l.ports
