use Rattle.std.proofs.Common.{◌≡◌, ◌-◌, codes}
use Rattle.expr_parser.specs.Spelling.{is_this}
use Rattle.expr_parser.specs.Input.{Parser, ◌>>◌}
use Rattle.module_parser.specs.Input.{many_from}
use Rattle.module_parser.specs.Reading.{listed, sign}
use Rattle.module_parser.specs.Readers.{Reads}
use Rattle.module_parser.proofs.list.listed.Given as goal

abbrev pub invariant-turn : goal.invariant-turn
invariant-turn g l = (p : Parser _) → Reads p (goal.F-post g l.read)
    → listed p l.fn.tokens ≡ many_from (is_this (codes ",")) (λ _. sign (codes ",") >> p) (l._turn-end - l._turn) l.found l.tokens
