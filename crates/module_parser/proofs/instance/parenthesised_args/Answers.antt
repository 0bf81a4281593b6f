use Rattle.module_parser.specs.Reading.{args}
use Rattle.module_parser.proofs.instance.parenthesised_args.Goals as goal

pub returns : goal.returns
returns c = c.parenthesised.ensures args (λ alloc old new r h. h.1)
