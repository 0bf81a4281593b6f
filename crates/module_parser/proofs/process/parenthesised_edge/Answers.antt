use Rattle.module_parser.specs.Reading.{edge}
use Rattle.module_parser.proofs.process.parenthesised_edge.Goals as goal

pub returns : goal.returns
returns c = c.parenthesised.ensures edge (λ alloc old new r h. h.1)
