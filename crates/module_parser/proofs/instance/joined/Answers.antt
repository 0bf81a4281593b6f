use Rattle.std.proofs.Common.{codes}
use Rattle.expr_parser.specs.Reading.{any}
use Rattle.module_parser.specs.Words.{is_no_sign}
use Rattle.module_parser.specs.Reading.{maybe}
use Rattle.module_parser.proofs.instance.joined.Goals as goal

pub returns : goal.returns
returns c = c.parenthesised.ensures (maybe (is_no_sign (codes ")")) any) (λ alloc old new r h. h.1)
