-- `is_sign` looks into the four tables that the signs are.
use Rattle.std.proofs.Common.{◌∙◌, sym}
use Rattle.sv_lexer.proofs.Signs.{sign_tables}
use Rattle.sv_lexer.proofs.sign.is_sign.Goals as goal

pub returns : goal.returns
returns c = c.is_in_tables.ensures ∙ sym (sign_tables c.args.piece.now)
