use Rattle.std.proofs.Common.{Ok, Err, ap, ◌∙◌, ◌-◌, ◌^◌, refl}
use Rattle.std.specs.Prelude.{min, pos, ◌+ℤ◌, ◌-ℤ◌}
use Rattle.std.proofs.lemmas.Result.{err_from_is_err_and}
use Rattle.bit_ops.specs.declared.value.TheConstants.{MAX_WIDTH}
use Rattle.const_eval.specs.WholeNumbers.{count_of, integer_of, whole_number_of}
use Rattle.const_eval.specs.code.Agreeing.{Agrees}
use Rattle.elaborate.specs.Names.{constant_at}
use Rattle.elaborate.specs.code.Walking.{seen_in}
use Rattle.elaborate.proofs.Selects.{IsFound, found_sized, part_agrees, part_refused}
use Rattle.elaborate.proofs.target.select.Goals as goal

pub returns-in_err-low-in-Part : goal.returns-in_err-low-in-Part
returns-in_err-low-in-Part c =
    let names = seen_in c.args.walk.now in
    let first : Agrees IsFound (Ok c.in_ok-high-in-Part.high) (constant_at names c.get-in-Part.result.now) = c.in_ok-high-in-Part.ensures in
    let second : Agrees IsFound (Err c.in_err-low-in-Part.field-0.0) (constant_at names c.get-in-Part-2.result.now) = c.in_err-low-in-Part.ensures in
    let p = err_from_is_err_and c.from_residual-in_err-low-in-Part.result c.from_residual-in_err-low-in-Part.ensures.1 in
    rw (p.1, p.2, c.in-Part.is) (part_refused c.args.needed names c.args.walk.now.scope.vars c.in-Part.field-0 c.in-Part.high c.in-Part.low
    c.in_ok-high-in-Part.high c.in_err-low-in-Part.field-0.0 (rw (c.get-in-Part.ensures) at first) (rw (c.get-in-Part-2.ensures) at second))

pub returns-in_ok-low-in-Part : goal.returns-in_ok-low-in-Part
returns-in_ok-low-in-Part c =
    let names = seen_in c.args.walk.now in
    let high = c.in_ok-high-in-Part.high in
    let low = c.in_ok-low-in-Part.low in
    let first : Agrees IsFound (Ok high) (constant_at names c.get-in-Part.result.now) = c.in_ok-high-in-Part.ensures in
    let second : Agrees IsFound (Ok low) (constant_at names c.get-in-Part-2.result.now) = c.in_ok-low-in-Part.ensures in
    rw (c.in-Part.is) (part_agrees c.args.needed names c.args.walk.now.scope.vars c.in-Part.field-0 c.in-Part.high c.in-Part.low high low _
    (found_sized c.sizes_and_values.ensures names c.in-Part.high) (found_sized c.sizes_and_values.ensures names c.in-Part.low)
    (rw (c.get-in-Part.ensures) at first) (rw (c.get-in-Part-2.ensures) at second)
    (c.span.ensures
    ∙ ap (λ z. min (count_of (z -ℤ integer_of c.number-in-Part.result +ℤ pos 1)) (2 ^ MAX_WIDTH - 1)) c.number.ensures
    ∙ ap (λ z. min (count_of (whole_number_of high -ℤ z +ℤ pos 1)) (2 ^ MAX_WIDTH - 1)) c.number-in-Part.ensures)
    c.constant_term.ensures refl refl)
