use Rattle.std.proofs.Common.{◌≡◌, ◌-◌}
use Rattle.module_parser.specs.Words.{is_any}
use Rattle.module_parser.specs.Input.{many_from}
use Rattle.module_parser.specs.Reading.{file, module_of}
use Rattle.module_parser.proofs.module.file.Given as goal

abbrev pub invariant-turn : goal.invariant-turn
invariant-turn l = file l.fn.tokens ≡ many_from is_any (λ _. module_of) (l._turn-end - l._turn) l.found l.tokens
