use Rattle.sv_lexer.proofs.Unique.{one_list_lem}
use Rattle.sv_lexer.proofs.laws.one_list.Goals as goal

pub returns : goal.returns
returns c = one_list_lem
