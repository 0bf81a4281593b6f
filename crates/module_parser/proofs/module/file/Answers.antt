use Rattle.std.proofs.Common.{arith}
use Rattle.std.proofs.lemmas.Grind.{common_steps}
use Rattle.module_parser.specs.Words.{is_any}
use Rattle.module_parser.specs.Input.{many, many_from}
use Rattle.module_parser.specs.Reading.{file, module_of}
use Rattle.module_parser.proofs.Turns.{one_more, no_more}
use Rattle.module_parser.proofs.module.file.Goals as goal

pub turn-init : goal.turn-init
unfolding many file
turn-init c = grind (arith, common_steps)

pub returns-then-not-sees_any : goal.returns-then-not-sees_any
unfolding many_from
returns-then-not-sees_any c =
    let e = one_more (λ n. many_from is_any (λ _. module_of) n c.turn.found c.turn.tokens) _ c.turn._turn c.turn-test.true c.turn.invariant in
    grind (arith, common_steps)

pub returns-in_err-module_of : goal.returns-in_err-module_of
unfolding many_from
returns-in_err-module_of c =
    let e = one_more (λ n. many_from is_any (λ _. module_of) n c.turn.found c.turn.tokens) _ c.turn._turn c.turn-test.true c.turn.invariant in
    grind (arith, common_steps)

pub turn-preserved : goal.turn-preserved
unfolding many_from
turn-preserved c =
    let e = one_more (λ n. many_from is_any (λ _. module_of) n c.turn.found c.turn.tokens) _ c.turn._turn c.turn-test.true c.turn.invariant in
    grind (arith, common_steps)

pub returns : goal.returns
unfolding many_from
returns c =
    let e = no_more (λ n. many_from is_any (λ _. module_of) n c.turn.found c.turn.tokens) _ c.turn._turn c.turn-test.false c.turn.invariant in
    grind (arith, common_steps)
