use Rattle.std.proofs.lemmas.List.{take_rest}
use Rattle.sv_lexer.proofs.Front.{line_at}
use Rattle.sv_lexer.proofs.comment.line_comment.Goals as goal

pub returns : goal.returns
returns c =
    line_at c.comment_form.result c.run_len-len.result c.args.bytes.now c.requires (simp take_rest at c.run_len-len.ensures.within)
    (simp take_rest at c.comment_form.ensures) (simp take_rest at c.run_len-len.ensures.run) (simp take_rest at c.run_len-len.ensures.stops)
