use Rattle.std.proofs.Common.{◌≡◌, ◌∙◌, ◌-ℤ◌, ◌+ℤ◌, pos, Ok}
use Rattle.std.proofs.lemmas.Result.{err_from_is_err_and}
use Rattle.sv_base.specs.declared.kind.Kind.TheVariants.{BadRange}
use Rattle.const_eval.specs.WholeNumbers.{integer_of}
use Rattle.const_eval.specs.Meaning.{number}
use Rattle.const_eval.specs.Constant.{constant_named}
use Rattle.const_eval.specs.Expressions.{refused_at}
use Rattle.const_eval.proofs.Counts.{width_counted, width_capped}
use Rattle.const_eval.proofs.Matching.{number_matches}
use Rattle.const_eval.proofs.Selecting.{no_further, ends_there, taken_holds, taken_fails, of_at, of_down_to, of_up_from, of_down_from}
use Rattle.const_eval.proofs.select.take.Goals as goal

pub returns-in-At : goal.returns-in-At
returns-in-At c =
    of_at c.args.taking.now c.in-At.at c.in-At.is
    (Ok c.part.result) (constant_named c.args.constant.value c.args.constant.low) c.args.name.now (λ p h.
    let start : integer_of c.number.result ≡ number p = c.number.ensures ∙ number_matches c.in-At.at p h in
    rw (no_further (integer_of c.number.result), start) at c.part.ensures)

pub returns-in_err-width-in-DownTo : goal.returns-in_err-width-in-DownTo
returns-in_err-width-in-DownTo c =
    of_down_to c.args.taking.now c.in-DownTo.high c.in-DownTo.low c.in-DownTo.is
    c.from_residual.result (constant_named c.args.constant.value c.args.constant.low) c.args.name.now (λ high low h l.
    let most : integer_of c.number-in-DownTo.result ≡ number high = c.number-in-DownTo.ensures ∙ number_matches c.in-DownTo.high high h in
    let least : integer_of c.number-low.result ≡ number low = c.number-low.ensures ∙ number_matches c.in-DownTo.low low l in
    let size = width_capped (refused_at BadRange c.args.name.now) c.args.name.now.place (number high -ℤ number low +ℤ pos 1) c.span.result (rw (most, least) at c.span.ensures) in
    let p = err_from_is_err_and c.from_residual.result c.from_residual.ensures.1 in
    rw (p.1, p.2) (taken_fails (number high -ℤ number low +ℤ pos 1) (λ w. number low) c.args.constant.value c.args.constant.low c.args.name.now
    c.in_err-width-in-DownTo.field-0.0 (rw size at c.in_err-width-in-DownTo.ensures.told)))

pub returns-in_ok-width-in-DownTo : goal.returns-in_ok-width-in-DownTo
returns-in_ok-width-in-DownTo c =
    of_down_to c.args.taking.now c.in-DownTo.high c.in-DownTo.low c.in-DownTo.is
    (Ok c.part-in-DownTo.result) (constant_named c.args.constant.value c.args.constant.low) c.args.name.now (λ high low h l.
    let most : integer_of c.number-in-DownTo.result ≡ number high = c.number-in-DownTo.ensures ∙ number_matches c.in-DownTo.high high h in
    let least : integer_of c.number-low.result ≡ number low = c.number-low.ensures ∙ number_matches c.in-DownTo.low low l in
    let size = width_capped (refused_at BadRange c.args.name.now) c.args.name.now.place (number high -ℤ number low +ℤ pos 1) c.span.result (rw (most, least) at c.span.ensures) in
    taken_holds (number high -ℤ number low +ℤ pos 1) (λ w. number low) c.args.constant.value c.args.constant.low c.args.name.now
    c.in_ok-width-in-DownTo.width c.part-in-DownTo.result (rw size at c.in_ok-width-in-DownTo.ensures.told)
    (rw (no_further (integer_of c.number-low.result), least) at c.part-in-DownTo.ensures))

pub returns-in_ok-width-in-UpFrom : goal.returns-in_ok-width-in-UpFrom
returns-in_ok-width-in-UpFrom c =
    of_up_from c.args.taking.now c.in-UpFrom.at c.in-UpFrom.width c.in-UpFrom.is
    (Ok c.part-in-UpFrom.result) (constant_named c.args.constant.value c.args.constant.low) c.args.name.now (λ p width h l.
    let wide : integer_of c.number-in-UpFrom.result ≡ number width = c.number-in-UpFrom.ensures ∙ number_matches c.in-UpFrom.width width l in
    let start : integer_of c.number-in-UpFrom-2.result ≡ number p = c.number-in-UpFrom-2.ensures ∙ number_matches c.in-UpFrom.at p h in
    let size = width_counted (refused_at BadRange c.args.name.now) c.args.name.now.place (number width) in
    taken_holds (number width) (λ w. number p) c.args.constant.value c.args.constant.low c.args.name.now
    c.in_ok-width-in-UpFrom.width c.part-in-UpFrom.result (rw (c.count.ensures, wide, size) at c.in_ok-width-in-UpFrom.ensures.told)
    (rw (no_further (integer_of c.number-in-UpFrom-2.result), start) at c.part-in-UpFrom.ensures))

pub returns-in_ok-width-in-DownFrom : goal.returns-in_ok-width-in-DownFrom
returns-in_ok-width-in-DownFrom c =
    of_down_from c.args.taking.now c.in-DownFrom.at c.in-DownFrom.width c.in-DownFrom.is
    (Ok c.part-in-DownFrom.result) (constant_named c.args.constant.value c.args.constant.low) c.args.name.now (λ p width h l.
    let wide : integer_of c.number-in-DownFrom.result ≡ number width = c.number-in-DownFrom.ensures ∙ number_matches c.in-DownFrom.width width l in
    let start : integer_of c.number-in-DownFrom-2.result ≡ number p = c.number-in-DownFrom-2.ensures ∙ number_matches c.in-DownFrom.at p h in
    let size = width_counted (refused_at BadRange c.args.name.now) c.args.name.now.place (number width) in
    taken_holds (number width) (λ w. number p -ℤ pos w +ℤ pos 1) c.args.constant.value c.args.constant.low c.args.name.now
    c.in_ok-width-in-DownFrom.width c.part-in-DownFrom.result (rw (c.count-in-DownFrom.ensures, wide, size) at c.in_ok-width-in-DownFrom.ensures.told)
    (rw (ends_there (integer_of c.number-in-DownFrom-2.result) c.in_ok-width-in-DownFrom.width c.in_ok-width-in-DownFrom.ensures.width.0, start) at c.part-in-DownFrom.ensures))
