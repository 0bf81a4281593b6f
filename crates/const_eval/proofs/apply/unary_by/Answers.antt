use Rattle.std.proofs.Common.{◌≡◌, ◌∙◌, sym, ap, Some}
use Rattle.sv_base.specs.Operators.{unary_of}
use Rattle.const_eval.proofs.apply.unary_by.Goals as goal

pub returns-in_ok-unary-in-Some : goal.returns-in_ok-unary-in-Some
returns-in_ok-unary-in-Some c = λ m p.
    let known : unary_of c.args.sign.now.name ≡ Some c.in-Some.operator = sym (c.in-Some.ensures ∙ ap unary_of c.bytes.ensures) in
    rw known (rw c.of-in-Some.ensures at (c.in_ok-unary-in-Some.ensures m p))
