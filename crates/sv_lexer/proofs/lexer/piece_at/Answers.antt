use Rattle.sv_lexer.proofs.Cut.{no_form_fails, refused_fails}
use Rattle.sv_lexer.proofs.lexer.piece_at.Goals as goal

pub returns-in_default : goal.returns-in_default
returns-in_default c = no_form_fails c.args.bytes.now c.byte_flaw.result.kind c.byte_flaw.result.name.now c.requires c.in_default.ensures c.byte_flaw.ensures.kind c.byte_flaw.ensures.name

pub returns-in-Some-flaw_of : goal.returns-in-Some-flaw_of
returns-in-Some-flaw_of c =
    refused_fails c.in-Some.found.form c.in-Some.found.len c.args.bytes.now c.in-Some-flaw_of.flaw.kind c.in-Some-flaw_of.flaw.name.now c.in-Some.ensures.is_found c.in-Some-flaw_of.ensures
