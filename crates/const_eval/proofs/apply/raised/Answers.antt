use Rattle.std.proofs.Common.{◌≡◌, ◌∙◌, sym, int_lt, pos, false}
use Rattle.const_eval.specs.WholeNumbers.{integer_of}
use Rattle.const_eval.proofs.Judging.{not_negative}
use Rattle.const_eval.proofs.apply.raised.Goals as goal

pub returns : goal.returns
returns c = λ m n p q.
    let least : int_lt (integer_of c.number.result) (pos 0) ≡ false = sym c.is_negative.ensures ∙ c.if-is_negative.false in
    rw (not_negative c.args.b.now n (integer_of c.number.result) q c.number.ensures least) (c.in_ok-moved.ensures m n p q)
