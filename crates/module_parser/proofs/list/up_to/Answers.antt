use Rattle.std.proofs.Common.{arith}
use Rattle.std.proofs.lemmas.Grind.{common_steps}
use Rattle.module_parser.specs.Words.{is_no_keyword}
use Rattle.module_parser.specs.Input.{many, many_from}
use Rattle.module_parser.proofs.Turns.{one_more, no_more}
use Rattle.module_parser.proofs.list.up_to.Goals as goal

pub turn-init : goal.turn-init
unfolding many
turn-init g c = λ p h. grind (arith, common_steps)

pub returns-then-not-sees_no_word : goal.returns-then-not-sees_no_word
unfolding many_from
returns-then-not-sees_no_word g c = λ p h.
    let e = one_more (λ n. many_from (is_no_keyword c.args.end.now) (λ _. p) n c.turn.found c.turn.tokens) _ c.turn._turn c.turn-test.true (c.turn.invariant p h) in
    grind (arith, common_steps)

pub returns-in_err-read : goal.returns-in_err-read
unfolding many_from
returns-in_err-read g c = λ p h.
    let e = one_more (λ n. many_from (is_no_keyword c.args.end.now) (λ _. p) n c.turn.found c.turn.tokens) _ c.turn._turn c.turn-test.true (c.turn.invariant p h) in
    let r = h _ _ _ _ c.in_err-read.ensures in
    grind (arith, common_steps)

pub turn-preserved : goal.turn-preserved
unfolding many_from
turn-preserved g c = λ p h.
    let e = one_more (λ n. many_from (is_no_keyword c.args.end.now) (λ _. p) n c.turn.found c.turn.tokens) _ c.turn._turn c.turn-test.true (c.turn.invariant p h) in
    let r = h _ _ _ _ c.in_ok-read.ensures in
    grind (arith, common_steps)

pub returns : goal.returns
unfolding many_from
returns g c = λ p h.
    let e = no_more (λ n. many_from (is_no_keyword c.args.end.now) (λ _. p) n c.turn.found c.turn.tokens) _ c.turn._turn c.turn-test.false (c.turn.invariant p h) in
    grind (arith, common_steps)
