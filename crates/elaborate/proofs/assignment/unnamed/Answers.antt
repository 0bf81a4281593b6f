use Rattle.std.proofs.lemmas.Result.{err_from_is_err_and}
use Rattle.elaborate.specs.code.Walking.{seen_in}
use Rattle.elaborate.proofs.Assigned.{value_refused}
use Rattle.elaborate.proofs.assignment.unnamed.Goals as goal

pub returns-in_err-value : goal.returns-in_err-value
returns-in_err-value c =
    let p = err_from_is_err_and c.from_residual-in_err-value.result c.from_residual-in_err-value.ensures.1 in
    rw (p.1, p.2) (value_refused c.args.needed (seen_in c.args.walk.now) c.args.walk.now.scope.vars c.args.to.now c.args.e.now c.in_ok-target.target c.place_of.result
    c.in_err-value.field-0.0 c.in_ok-target.ensures c.place_of.ensures c.in_err-value.ensures)
