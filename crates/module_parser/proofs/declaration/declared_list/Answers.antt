use Rattle.module_parser.specs.Reading.{declared}
use Rattle.module_parser.proofs.declaration.declared_list.Goals as goal

pub returns : goal.returns
returns c = c.listed.ensures declared (λ alloc old new r h. h.1)
