use Rattle.std.proofs.lemmas.List.{take_rest}
use Rattle.sv_lexer.proofs.Front.{sized_at, decimal_at}
use Rattle.sv_lexer.proofs.number.number.Goals as goal

pub returns-in-Some : goal.returns-in-Some
returns-in-Some c =
    sized_at c.run_len-size.result c.in-Some.tail c.args.bytes.now c.requires.some c.requires.digit c.run_len-size.ensures.within
    c.run_len-size.ensures.run c.run_len-size.ensures.stops (simp take_rest at c.in-Some.ensures)

pub returns-in-None : goal.returns-in-None
returns-in-None c =
    decimal_at c.run_len-size.result c.args.bytes.now c.requires.some c.requires.digit c.run_len-size.ensures.within
    c.run_len-size.ensures.run c.run_len-size.ensures.stops (simp take_rest at c.in-None.ensures)
