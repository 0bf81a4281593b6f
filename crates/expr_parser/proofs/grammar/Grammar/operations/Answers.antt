use Rattle.std.proofs.Common.{rules, arith}
use Rattle.std.proofs.lemmas.Grind.{common_steps}
use Rattle.expr_parser.specs.Reading.{expr, operations, climb}
use Rattle.expr_parser.proofs.Turns.{one_more, no_more}
use Rattle.expr_parser.proofs.grammar.Grammar.operations.Goals as goal

pub turn-init : goal.turn-init
unfolding operations
turn-init g c = first_of (search rules, grind (arith, common_steps))

pub returns-then-is_looser : goal.returns-then-is_looser
unfolding climb
returns-then-is_looser g c =
    let e = one_more (λ n. climb (expr c.args.self.now.depth) c.args.least n c.turn.left c.turn.tokens) _ c.turn._turn c.turn-test.true c.turn.invariant in
    first_of (search rules, grind (arith, common_steps))

pub returns-in_err-left : goal.returns-in_err-left
unfolding climb
returns-in_err-left g c =
    let e = one_more (λ n. climb (expr c.args.self.now.depth) c.args.least n c.turn.left c.turn.tokens) _ c.turn._turn c.turn-test.true c.turn.invariant in
    first_of (search rules, grind (arith, common_steps))

pub turn-preserved : goal.turn-preserved
unfolding climb
turn-preserved g c =
    let e = one_more (λ n. climb (expr c.args.self.now.depth) c.args.least n c.turn.left c.turn.tokens) _ c.turn._turn c.turn-test.true c.turn.invariant in
    first_of (search rules, grind (arith, common_steps))

pub returns : goal.returns
unfolding climb
returns g c =
    let e = no_more (λ n. climb (expr c.args.self.now.depth) c.args.least n c.turn.left c.turn.tokens) _ c.turn._turn c.turn-test.false c.turn.invariant in
    first_of (search rules, grind (arith, common_steps))
