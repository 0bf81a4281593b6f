use Rattle.std.proofs.Common.{sym, subst, ◌∙◌}
use Rattle.std.proofs.lemmas.Result.{err_from_is_err_and}
use Rattle.dpi_wrapper.specs.code.Reading.{Fails}
use Rattle.dpi_wrapper.proofs.Again.{digit_goes_on, digit_fails, digits_stop, digits_end}
use Rattle.dpi_wrapper.proofs.fields.number_at.Goals as goal

pub returns-then-not-is_digit : goal.returns-then-not-is_digit
returns-then-not-is_digit c =
    sym c.loop-at.invariant
    ∙ digits_stop c.loop-at.number c.loop-at.at c.args.bytes.now c.loop-at-test.true (sym c.is_digit.ensures.value ∙ c.if-not-is_digit.true)

pub returns-in_err-number : goal.returns-in_err-number
returns-in_err-number c =
    let p = err_from_is_err_and c.from_residual.result c.from_residual.ensures.1 in
    let e = c.in_err-number.field-0.0 in
    rw (p.1, p.2) (subst (Fails e) c.loop-at.invariant
    (digit_fails e c.loop-at.number c.loop-at.at c.args.bytes.now c.loop-at-test.true
    (sym c.is_digit.ensures.value ∙ c.if-not-is_digit.false) c.in_err-number.ensures))

pub loop-at-preserved : goal.loop-at-preserved
loop-at-preserved c =
    sym (digit_goes_on c.loop-at.number c.loop-at.at c.in_ok-number.number c.args.bytes.now c.loop-at-test.true
    (sym c.is_digit.ensures.value ∙ c.if-not-is_digit.false) c.in_ok-number.ensures)
    ∙ c.loop-at.invariant

pub returns : goal.returns
returns c = sym c.loop-at.invariant ∙ digits_end c.loop-at.number c.loop-at.at c.args.bytes.now c.loop-at-test.false
