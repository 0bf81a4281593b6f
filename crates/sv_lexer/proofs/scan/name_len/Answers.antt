use Rattle.std.proofs.Common.{arith}
use Rattle.std.proofs.lemmas.Grind.{common_steps}
use Rattle.sv_lexer.proofs.Front.{name_at}
use Rattle.sv_lexer.proofs.scan.name_len.Goals as goal

pub returns-else-not-begins_name : goal.returns-else-not-begins_name
returns-else-not-begins_name c =
    name_at c.run_len.result c.args.bytes.now (grind (arith, common_steps)) (grind (arith, common_steps)) c.run_len.ensures.within c.run_len.ensures.run c.run_len.ensures.stops
