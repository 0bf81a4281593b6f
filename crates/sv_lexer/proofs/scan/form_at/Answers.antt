use Rattle.std.proofs.Common.{sym}
use Rattle.sv_lexer.proofs.Front.{blank_at, no_form_at}
use Rattle.sv_lexer.proofs.scan.form_at.Goals as goal

pub returns-in-Blank : goal.returns-in-Blank
returns-in-Blank c = blank_at c.args.bytes.now c.requires c.in-Blank.ensures.known

pub returns-in-Other : goal.returns-in-Other
returns-in-Other c = no_form_at c.args.bytes.now c.requires (sym c.in-Other.ensures.value)
