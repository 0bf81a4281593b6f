-- `is_unary` asks whether the table of operators has a row of the piece.
use Rattle.std.proofs.Common.{◌∙◌}
use Rattle.sv_lexer.proofs.Signs.{spells_unary}
use Rattle.sv_lexer.proofs.sign.is_unary.Goals as goal

pub returns : goal.returns
returns c = c.is_some.ensures ∙ spells_unary c.args.piece.now c.of.result c.of.ensures
