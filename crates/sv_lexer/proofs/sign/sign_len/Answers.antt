use Rattle.std.proofs.Common.{refl}
use Rattle.sv_lexer.proofs.Longest.{long_no_sign, no_sign_from}
use Rattle.sv_lexer.proofs.sign.sign_len.Goals as goal

pub returns-then-has_sign-clause-longest : goal.returns-then-has_sign-clause-longest
returns-then-has_sign-clause-longest c = long_no_sign c.args.bytes.now

pub returns-then-has_sign-2-clause-longest : goal.returns-then-has_sign-2-clause-longest
returns-then-has_sign-2-clause-longest c =
    no_sign_from c.args.bytes.now 3 (c.has_sign.ensures.none c.if-has_sign.false) (long_no_sign c.args.bytes.now) 2 refl

pub returns-else-has_sign-2-clause-longest : goal.returns-else-has_sign-2-clause-longest
returns-else-has_sign-2-clause-longest c =
    no_sign_from c.args.bytes.now 2 (c.has_sign-else-has_sign.ensures.none c.if-has_sign-2.false)
    (no_sign_from c.args.bytes.now 3 (c.has_sign.ensures.none c.if-has_sign.false) (long_no_sign c.args.bytes.now) 2 refl) 1 refl
