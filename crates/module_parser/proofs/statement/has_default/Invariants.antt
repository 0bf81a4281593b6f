use Rattle.std.proofs.Common.{◌≡◌, length}
use Rattle.module_parser.specs.Grammar as grammar
use Rattle.module_parser.proofs.statement.has_default.Given as goal

abbrev pub invariant-loop-rest : goal.invariant-loop-rest
invariant-loop-rest l = grammar.has_default l.rest ≡ grammar.has_default l.fn.items

abbrev pub decreases-loop-rest : goal.decreases-loop-rest
decreases-loop-rest l = length l.rest
