use Rattle.std.proofs.Common.{arith, codes}
use Rattle.std.proofs.lemmas.Grind.{common_steps}
use Rattle.expr_parser.specs.Spelling.{is_this}
use Rattle.expr_parser.specs.Input.{◌>>◌}
use Rattle.module_parser.specs.Input.{many_from}
use Rattle.module_parser.specs.Reading.{sign}
use Rattle.module_parser.proofs.Many.{listed_first}
use Rattle.module_parser.proofs.Turns.{one_more, no_more}
use Rattle.module_parser.proofs.list.listed.Goals as goal

pub turn-init : goal.turn-init
turn-init g c = λ p h. let e = listed_first p _ _ _ (h _ _ _ _ c.in_ok-first.ensures) in grind (arith, common_steps)

pub returns-then-not-sees : goal.returns-then-not-sees
unfolding many_from
returns-then-not-sees g c = λ p h.
    let e = one_more (λ n. many_from (is_this (codes ",")) (λ _. sign (codes ",") >> p) n c.turn.found c.turn.tokens) _ c.turn._turn c.turn-test.true (c.turn.invariant p h) in
    grind (arith, common_steps)

pub returns-in_err-item : goal.returns-in_err-item
unfolding many_from
returns-in_err-item g c = λ p h.
    let e = one_more (λ n. many_from (is_this (codes ",")) (λ _. sign (codes ",") >> p) n c.turn.found c.turn.tokens) _ c.turn._turn c.turn-test.true (c.turn.invariant p h) in
    let r = c.in_err-item.ensures p h in
    grind (arith, common_steps)

pub turn-preserved : goal.turn-preserved
unfolding many_from
turn-preserved g c = λ p h.
    let e = one_more (λ n. many_from (is_this (codes ",")) (λ _. sign (codes ",") >> p) n c.turn.found c.turn.tokens) _ c.turn._turn c.turn-test.true (c.turn.invariant p h) in
    let r = c.in_ok-item.ensures p h in
    grind (arith, common_steps)

pub returns : goal.returns
unfolding many_from
returns g c = λ p h.
    let e = no_more (λ n. many_from (is_this (codes ",")) (λ _. sign (codes ",") >> p) n c.turn.found c.turn.tokens) _ c.turn._turn c.turn-test.false (c.turn.invariant p h) in
    grind (arith, common_steps)
