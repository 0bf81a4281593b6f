-- `is_binary` asks whether the table of operators has a row of the piece.
use Rattle.std.proofs.Common.{◌∙◌}
use Rattle.sv_lexer.proofs.Signs.{spells_binary}
use Rattle.sv_lexer.proofs.sign.is_binary.Goals as goal

pub returns : goal.returns
returns c = c.is_some.ensures ∙ spells_binary c.args.piece.now c.of.result c.of.ensures
