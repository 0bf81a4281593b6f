use Rattle.std.proofs.lemmas.List.{take_rest}
use Rattle.sv_lexer.proofs.Front.{block_at, open_at}
use Rattle.sv_lexer.proofs.comment.block_comment.Goals as goal

pub returns-in-Some : goal.returns-in-Some
returns-in-Some c =
    block_at c.comment_form.result c.in-Some.len c.args.bytes.now c.requires (simp take_rest at c.in-Some.ensures) (simp take_rest at c.comment_form.ensures)

pub returns-in-None : goal.returns-in-None
returns-in-None c = open_at c.args.bytes.now c.requires (simp take_rest at c.in-None.ensures)
