use Rattle.module_parser.specs.Reading.{listed, header_parameter}
use Rattle.module_parser.proofs.module.parenthesised_parameters.Goals as goal

pub returns : goal.returns
returns c = c.parenthesised.ensures (listed header_parameter) (λ alloc old new r h. h.1)
