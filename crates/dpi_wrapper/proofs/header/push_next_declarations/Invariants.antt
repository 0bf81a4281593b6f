use Rattle.std.proofs.Common.{◌≡◌, ◌++◌, drop}
use Rattle.std.specs.List.{flat_map}
use Rattle.dpi_wrapper.specs.WrapperText.{next_declaration}
use Rattle.dpi_wrapper.proofs.header.push_next_declarations.Given as goal

-- what is written and what is to come make all
abbrev pub invariant-loop-port : goal.invariant-loop-port
invariant-loop-port l = l.into.items ++ flat_map next_declaration (drop l.port-index l.ports) ≡ l.fn.into.items ++ flat_map next_declaration l.ports
