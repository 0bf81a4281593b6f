use Rattle.sv_lexer.proofs.Front.{sign_at, first_sign}
use Rattle.sv_lexer.proofs.scan.sign.Goals as goal

pub sign_len-requires-clause-sign : goal.sign_len-requires-clause-sign
sign_len-requires-clause-sign c = first_sign c.args.bytes.now c.requires.some c.requires.sign

pub returns : goal.returns
returns c =
    sign_at c.sign_len.result c.args.bytes.now c.requires.lead c.sign_len.ensures.some c.sign_len.ensures.within c.sign_len.ensures.sign c.sign_len.ensures.longest
