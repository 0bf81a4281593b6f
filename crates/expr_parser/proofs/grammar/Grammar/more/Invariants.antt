use Rattle.std.proofs.Common.{◌≡◌, ◌-◌}
use Rattle.expr_parser.specs.Reading.{expr, more, list_from}
use Rattle.expr_parser.proofs.grammar.Grammar.more.Given as goal

abbrev pub invariant-turn : goal.invariant-turn
invariant-turn g l = more (expr l.self.depth) l.fn.first l.fn.tokens ≡ list_from (expr l.self.depth) (l._turn-end - l._turn) l.found l.tokens
