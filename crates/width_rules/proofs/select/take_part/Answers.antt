use Rattle.std.proofs.Common.{pos, ◌-ℤ◌, ◌+ℤ◌, false, Ok}
use Rattle.std.proofs.lemmas.Result.{err_from_is_err_and}
use Rattle.const_eval.specs.WholeNumbers.{whole_number_of}
use Rattle.net_ir.specs.declared.term.Term.{Const}
use Rattle.width_rules.specs.Selecting.{shape_of, taken_width, picked}
use Rattle.width_rules.proofs.Takes.{capped_width}
use Rattle.width_rules.proofs.Opened.{told_first, told_behind}
use Rattle.width_rules.proofs.select.take_part.Goals as goal

pub returns-in_err-width : goal.returns-in_err-width
returns-in_err-width c =
    let vars = c.args.scope.now.vars in
    let shape = shape_of vars c.args.bound in
    let z = whole_number_of c.args.high -ℤ whole_number_of c.args.low +ℤ pos 1 in
    let size = capped_width z c.span.result shape c.args.name.now (rw (c.number.ensures, c.number-2.ensures) at c.span.ensures) in
    let e = err_from_is_err_and c.from_residual.result c.from_residual.ensures.1 in
    record {
      built = rw (e.1, e.2)
          (told_first c.in_err-width.field-0.0 (taken_width z shape c.args.name.now)
          (λ w. Ok (picked vars c.args.name.now c.args.bound (Const c.args.low.value) c.args.low.signed false w)) (rw size at c.in_err-width.ensures.told));
    }

pub returns : goal.returns
returns c =
    let vars = c.args.scope.now.vars in
    let shape = shape_of vars c.args.bound in
    let z = whole_number_of c.args.high -ℤ whole_number_of c.args.low +ℤ pos 1 in
    let size = capped_width z c.span.result shape c.args.name.now (rw (c.number.ensures, c.number-2.ensures) at c.span.ensures) in
    record {
      built = told_behind c.in_ok-width.width (taken_width z shape c.args.name.now) (λ w. Ok (picked vars c.args.name.now c.args.bound (Const c.args.low.value) c.args.low.signed false w))
          (Ok c.in_ok-pick.field-0) (rw size at c.in_ok-width.ensures.told) c.in_ok-pick.ensures.built;
    }
