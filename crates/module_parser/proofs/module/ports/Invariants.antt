use Rattle.std.proofs.Common.{◌≡◌, ◌-◌, codes}
use Rattle.expr_parser.specs.Spelling.{is_this}
use Rattle.expr_parser.specs.Input.{◌>>◌}
use Rattle.module_parser.specs.Input.{many_from}
use Rattle.module_parser.specs.Reading.{ports, further_port, sign}
use Rattle.module_parser.proofs.module.ports.Given as goal

abbrev pub invariant-turn : goal.invariant-turn
invariant-turn l =
    ports l.fn.tokens ≡ many_from (is_this (codes ",")) (λ _. sign (codes ",") >> further_port) (l._turn-end - l._turn) l.found l.tokens
