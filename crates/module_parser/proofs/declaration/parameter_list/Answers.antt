use Rattle.module_parser.specs.Reading.{parameter}
use Rattle.module_parser.proofs.declaration.parameter_list.Goals as goal

pub returns : goal.returns
returns c = c.listed.ensures parameter (λ alloc old new r h. h.1)
