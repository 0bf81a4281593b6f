use Rattle.std.proofs.Common.{arith, codes}
use Rattle.std.proofs.lemmas.Grind.{common_steps}
use Rattle.expr_parser.specs.Spelling.{is_this}
use Rattle.expr_parser.specs.Input.{◌>>◌}
use Rattle.module_parser.specs.Input.{many_from}
use Rattle.module_parser.specs.Reading.{sign, ports, further_port}
use Rattle.module_parser.proofs.Ports.{ports_first}
use Rattle.module_parser.proofs.Turns.{one_more, no_more}
use Rattle.module_parser.proofs.module.ports.Goals as goal

pub returns-in_err-whole_port : goal.returns-in_err-whole_port
unfolding ports
returns-in_err-whole_port c = grind (arith, common_steps)

pub turn-init : goal.turn-init
turn-init c = let e = ports_first _ _ _ c.in_ok-whole_port.ensures in grind (arith, common_steps)

pub returns-then-not-sees : goal.returns-then-not-sees
unfolding many_from
returns-then-not-sees c =
    let e = one_more (λ n. many_from (is_this (codes ",")) (λ _. sign (codes ",") >> further_port) n c.turn.found c.turn.tokens) _ c.turn._turn c.turn-test.true c.turn.invariant in
    grind (arith, common_steps)

pub returns-in_err-expect : goal.returns-in_err-expect
unfolding many_from
returns-in_err-expect c =
    let e = one_more (λ n. many_from (is_this (codes ",")) (λ _. sign (codes ",") >> further_port) n c.turn.found c.turn.tokens) _ c.turn._turn c.turn-test.true c.turn.invariant in
    grind (arith, common_steps)

pub returns-in_err-further_port : goal.returns-in_err-further_port
unfolding many_from
returns-in_err-further_port c =
    let e = one_more (λ n. many_from (is_this (codes ",")) (λ _. sign (codes ",") >> further_port) n c.turn.found c.turn.tokens) _ c.turn._turn c.turn-test.true c.turn.invariant in
    grind (arith, common_steps)

pub turn-preserved : goal.turn-preserved
unfolding many_from
turn-preserved c =
    let e = one_more (λ n. many_from (is_this (codes ",")) (λ _. sign (codes ",") >> further_port) n c.turn.found c.turn.tokens) _ c.turn._turn c.turn-test.true c.turn.invariant in
    grind (arith, common_steps)

pub returns : goal.returns
unfolding many_from
returns c =
    let e = no_more (λ n. many_from (is_this (codes ",")) (λ _. sign (codes ",") >> further_port) n c.turn.found c.turn.tokens) _ c.turn._turn c.turn-test.false c.turn.invariant in
    grind (arith, common_steps)
