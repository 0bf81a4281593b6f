use Rattle.module_parser.specs.Reading.{event}
use Rattle.module_parser.proofs.process.parenthesised_event.Goals as goal

pub returns : goal.returns
returns c = c.parenthesised.ensures event (λ alloc old new r h. h.1)
