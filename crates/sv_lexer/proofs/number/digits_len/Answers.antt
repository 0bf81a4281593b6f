use Rattle.std.proofs.Common.{arith}
use Rattle.std.proofs.lemmas.Grind.{common_steps}
use Rattle.sv_lexer.proofs.Front.{digits_from_run}
use Rattle.sv_lexer.proofs.number.digits_len.Goals as goal

pub returns-else-not-is_digit_of-clause-digits : goal.returns-else-not-is_digit_of-clause-digits
returns-else-not-is_digit_of-clause-digits c =
    digits_from_run c.args.base c.args.bytes.now c.run_len.result (grind (arith, common_steps)) c.run_len.ensures.run
