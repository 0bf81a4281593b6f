use Rattle.std.proofs.Common.{◌≡◌, ◌∙◌, ap, Ok}
use Rattle.std.proofs.lemmas.Result.{err_from_is_err_and}
use Rattle.const_eval.specs.WholeNumbers.{whole_number_of, count_of}
use Rattle.width_rules.specs.Waiting.{own_term}
use Rattle.width_rules.specs.Selecting.{shape_of, taken_width, picked}
use Rattle.width_rules.proofs.Takes.{counted_width, indexed_take}
use Rattle.width_rules.proofs.Opened.{told_first, told_behind}
use Rattle.width_rules.proofs.select.take_from.Goals as goal

pub returns-in_err-width : goal.returns-in_err-width
returns-in_err-width c =
    let vars = c.args.scope.now.vars in
    let shape = shape_of vars c.args.bound in
    let z = whole_number_of c.args.width in
    let wide : c.count.result ≡ count_of z = c.count.ensures ∙ ap count_of c.number.ensures in
    let e = err_from_is_err_and c.from_residual.result c.from_residual.ensures.1 in
    record {
      built = rw (e.1, e.2, indexed_take vars c.args.name.now c.args.bound c.args.down c.args.at c.args.width)
          (told_first c.in_err-width.field-0.0 (taken_width z shape c.args.name.now)
          (λ w. Ok (picked vars c.args.name.now c.args.bound (own_term c.args.at) c.args.at.signed c.args.down w)) (rw (wide, counted_width z shape c.args.name.now) at c.in_err-width.ensures.told));
    }

pub returns : goal.returns
returns c =
    let vars = c.args.scope.now.vars in
    let shape = shape_of vars c.args.bound in
    let z = whole_number_of c.args.width in
    let wide : c.count.result ≡ count_of z = c.count.ensures ∙ ap count_of c.number.ensures in
    record {
      built = rw (indexed_take vars c.args.name.now c.args.bound c.args.down c.args.at c.args.width)
          (told_behind c.in_ok-width.width (taken_width z shape c.args.name.now)
          (λ w. Ok (picked vars c.args.name.now c.args.bound (own_term c.args.at) c.args.at.signed c.args.down w)) (Ok c.in_ok-pick_at.field-0)
          (rw (wide, counted_width z shape c.args.name.now) at c.in_ok-width.ensures.told) c.in_ok-pick_at.ensures.built);
    }
