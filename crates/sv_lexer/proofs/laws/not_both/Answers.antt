use Rattle.sv_lexer.proofs.Unique.{not_both_lem}
use Rattle.sv_lexer.proofs.laws.not_both.Goals as goal

pub returns : goal.returns
returns c = not_both_lem
