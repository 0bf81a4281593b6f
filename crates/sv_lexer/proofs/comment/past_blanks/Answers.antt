use Rattle.sv_lexer.proofs.Marks.{blank_run}
use Rattle.sv_lexer.proofs.comment.past_blanks.Goals as goal

pub returns : goal.returns
returns c = blank_run c.run_len-blanks.result c.args.bytes.now c.run_len-blanks.ensures.within c.run_len-blanks.ensures.run c.run_len-blanks.ensures.stops
