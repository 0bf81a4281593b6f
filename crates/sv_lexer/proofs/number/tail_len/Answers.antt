use Rattle.std.proofs.lemmas.List.{take_rest}
use Rattle.sv_lexer.proofs.Front.{tail_at}
use Rattle.sv_lexer.proofs.number.tail_len.Goals as goal

pub returns : goal.returns
returns c =
    tail_at c.in_ok-head.head.base c.in_ok-head.head.len c.digits_len.result c.args.bytes.now c.in_ok-head.ensures
    (simp take_rest at c.digits_len.ensures.within) (simp take_rest at c.digits_len.ensures.digits) (simp take_rest at c.digits_len.ensures.stops)
