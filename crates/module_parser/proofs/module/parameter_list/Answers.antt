use Rattle.module_parser.specs.Reading.{header_parameter}
use Rattle.module_parser.proofs.module.parameter_list.Goals as goal

pub returns : goal.returns
returns c = c.listed.ensures header_parameter (λ alloc old new r h. h.1)
