use Rattle.std.proofs.Common.{◌∙◌}
use Rattle.sv_lexer.proofs.Front.{unsized_at, fill_at, quote_none_at}
use Rattle.sv_lexer.proofs.number.quoted.Goals as goal

pub returns-in-Some : goal.returns-in-Some
returns-in-Some c = unsized_at c.in-Some.len c.args.bytes.now c.in-Some.ensures

pub returns-then-not-is_bit : goal.returns-then-not-is_bit
returns-then-not-is_bit c =
    let neither = c.is_bit.ensures.none c.if-not-is_bit.true in
    quote_none_at c.args.bytes.now c.requires (λ e. neither.0 (c.byte_at.ensures.value ∙ e)) (λ e. neither.1 (c.byte_at.ensures.value ∙ e)) c.in_default.ensures

pub returns : goal.returns
returns c =
    fill_at c.args.bytes.now c.requires (rw c.byte_at.ensures.value at (c.is_bit.ensures.yes c.if-not-is_bit.false)) c.in_default.ensures
