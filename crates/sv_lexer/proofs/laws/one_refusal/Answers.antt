use Rattle.sv_lexer.proofs.Unique.{one_refusal_lem}
use Rattle.sv_lexer.proofs.laws.one_refusal.Goals as goal

pub returns : goal.returns
returns c = one_refusal_lem
