use Rattle.std.proofs.Common.{◌≡◌, ◌-◌, codes}
use Rattle.module_parser.specs.Words.{is_no_keyword}
use Rattle.module_parser.specs.Input.{many_from}
use Rattle.module_parser.specs.Reading.{case_item, statement_to}
use Rattle.module_parser.specs.Parts.{case_items}
use Rattle.module_parser.proofs.statement.Statements.case_items.Given as goal

abbrev pub invariant-turn : goal.invariant-turn
invariant-turn g l =
    case_items (statement_to l.self.depth) l.fn.tokens
    ≡ many_from (is_no_keyword (codes "endcase")) (case_item (statement_to l.self.depth)) (l._turn-end - l._turn) l.found l.tokens
