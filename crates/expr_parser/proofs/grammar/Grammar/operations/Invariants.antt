use Rattle.std.proofs.Common.{◌≡◌, ◌-◌}
use Rattle.expr_parser.specs.Reading.{expr, operations, climb}
use Rattle.expr_parser.proofs.grammar.Grammar.operations.Given as goal

abbrev pub invariant-turn : goal.invariant-turn
invariant-turn g l = operations (expr l.self.depth) l.least l.fn.left l.fn.tokens ≡ climb (expr l.self.depth) l.least (l._turn-end - l._turn) l.left l.tokens
