use Rattle.std.proofs.Common.{rules, arith}
use Rattle.std.proofs.lemmas.Grind.{common_steps}
use Rattle.expr_parser.specs.Reading.{expr, more, list_from}
use Rattle.expr_parser.proofs.Turns.{one_more, no_more}
use Rattle.expr_parser.proofs.grammar.Grammar.more.Goals as goal

pub turn-init : goal.turn-init
unfolding more
turn-init g c = first_of (search rules, grind (arith, common_steps))

pub returns-then-not-sees : goal.returns-then-not-sees
unfolding list_from
returns-then-not-sees g c =
    let e = one_more (λ n. list_from (expr c.args.self.now.depth) n c.turn.found c.turn.tokens) _ c.turn._turn c.turn-test.true c.turn.invariant in
    first_of (search rules, grind (arith, common_steps))

pub returns-in_err-whole : goal.returns-in_err-whole
unfolding list_from
returns-in_err-whole g c =
    let e = one_more (λ n. list_from (expr c.args.self.now.depth) n c.turn.found c.turn.tokens) _ c.turn._turn c.turn-test.true c.turn.invariant in
    first_of (search rules, grind (arith, common_steps))

pub turn-preserved : goal.turn-preserved
unfolding list_from
turn-preserved g c =
    let e = one_more (λ n. list_from (expr c.args.self.now.depth) n c.turn.found c.turn.tokens) _ c.turn._turn c.turn-test.true c.turn.invariant in
    first_of (search rules, grind (arith, common_steps))

pub returns : goal.returns
unfolding list_from
returns g c =
    let e = no_more (λ n. list_from (expr c.args.self.now.depth) n c.turn.found c.turn.tokens) _ c.turn._turn c.turn-test.false c.turn.invariant in
    first_of (search rules, grind (arith, common_steps))
