use Rattle.std.proofs.lemmas.List.{take_rest}
use Rattle.sv_lexer.proofs.Front.{system_at, system_none_at}
use Rattle.sv_lexer.proofs.scan.system.Goals as goal

pub returns-in_default : goal.returns-in_default
returns-in_default c = system_none_at c.args.bytes.now c.requires (simp take_rest at c.in_default.ensures)

pub returns : goal.returns
returns c = system_at c.in-Some.name c.args.bytes.now c.requires (simp take_rest at c.in-Some.ensures)
