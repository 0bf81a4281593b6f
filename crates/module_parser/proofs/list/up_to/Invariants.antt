use Rattle.std.proofs.Common.{◌≡◌, ◌-◌}
use Rattle.expr_parser.specs.Input.{Parser}
use Rattle.module_parser.specs.Words.{is_no_keyword}
use Rattle.module_parser.specs.Input.{many, many_from}
use Rattle.module_parser.specs.code.Depth.{ReadsAt}
use Rattle.module_parser.proofs.list.up_to.Given as goal

abbrev pub invariant-turn : goal.invariant-turn
invariant-turn g l = (p : Parser _) → ReadsAt p l.depth (goal.F-post g l.read)
    → many (is_no_keyword l.end) (λ _. p) l.fn.tokens ≡ many_from (is_no_keyword l.end) (λ _. p) (l._turn-end - l._turn) l.found l.tokens
