use Rattle.std.proofs.Common.{arith}
use Rattle.sv_lexer.proofs.Front.{slash_at}
use Rattle.sv_lexer.proofs.scan.slash.Goals as goal

pub returns-in_default : goal.returns-in_default
returns-in_default c = slash_at c.args.bytes.now c.requires (λ e. omega arith) (λ e. omega arith)
