use Rattle.module_parser.specs.Reading.{port_list}
use Rattle.module_parser.proofs.module.parenthesised_ports.Goals as goal

pub returns : goal.returns
returns c = c.parenthesised.ensures port_list (λ alloc old new r h. h.1)
