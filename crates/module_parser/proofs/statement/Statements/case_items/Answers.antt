use Rattle.std.proofs.Common.{arith, codes}
use Rattle.std.proofs.lemmas.Grind.{common_steps}
use Rattle.module_parser.specs.Words.{is_no_keyword}
use Rattle.module_parser.specs.Input.{many_from}
use Rattle.module_parser.specs.Reading.{case_item, statement_to}
use Rattle.module_parser.proofs.Many.{many_first}
use Rattle.module_parser.proofs.Turns.{one_more, no_more}
use Rattle.module_parser.proofs.statement.Statements.case_items.Goals as goal

pub turn-init : goal.turn-init
turn-init g c =
    let e = many_first (is_no_keyword (codes "endcase")) (case_item (statement_to c.args.self.now.depth)) _ _ _ c.in_ok-first.ensures in
    grind (arith, common_steps)

pub returns-then-not-sees_no_word : goal.returns-then-not-sees_no_word
unfolding many_from
returns-then-not-sees_no_word g c =
    let e = one_more (λ n. many_from (is_no_keyword (codes "endcase")) (case_item (statement_to c.args.self.now.depth)) n c.turn.found c.turn.tokens) _ c.turn._turn c.turn-test.true c.turn.invariant in
    grind (arith, common_steps)

pub returns-in_err-item : goal.returns-in_err-item
unfolding many_from
returns-in_err-item g c =
    let e = one_more (λ n. many_from (is_no_keyword (codes "endcase")) (case_item (statement_to c.args.self.now.depth)) n c.turn.found c.turn.tokens) _ c.turn._turn c.turn-test.true c.turn.invariant in
    grind (arith, common_steps)

pub turn-preserved : goal.turn-preserved
unfolding many_from
turn-preserved g c =
    let e = one_more (λ n. many_from (is_no_keyword (codes "endcase")) (case_item (statement_to c.args.self.now.depth)) n c.turn.found c.turn.tokens) _ c.turn._turn c.turn-test.true c.turn.invariant in
    grind (arith, common_steps)

pub returns : goal.returns
unfolding many_from
returns g c =
    let e = no_more (λ n. many_from (is_no_keyword (codes "endcase")) (case_item (statement_to c.args.self.now.depth)) n c.turn.found c.turn.tokens) _ c.turn._turn c.turn-test.false c.turn.invariant in
    grind (arith, common_steps)
