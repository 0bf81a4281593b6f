use Rattle.std.proofs.Common.{◌≡◌, drop}
use Rattle.sv_lexer.specs.Bytes.{spelled}
use Rattle.sv_lexer.proofs.Spelling.{read}
use Rattle.sv_lexer.proofs.value.value_of_digits.Given as goal

-- what was read and the digits left make up the number
abbrev pub invariant-loop-digit : goal.invariant-loop-digit
invariant-loop-digit l = read l.radix l.value (drop l.digit-index l.digits) ≡ spelled l.radix l.digits
