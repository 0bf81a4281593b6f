use Rattle.sv_lexer.proofs.Front.{name_at, word_at}
use Rattle.sv_lexer.proofs.scan.word.Goals as goal

pub returns : goal.returns
returns c =
    word_at c.run_len.result c.args.bytes.now
    (name_at c.run_len.result c.args.bytes.now c.requires.some c.requires.letter c.run_len.ensures.within c.run_len.ensures.run c.run_len.ensures.stops)
