use Rattle.std.proofs.Common.{refl, ap, ◌∙◌, arith}
use Rattle.const_eval.specs.WholeNumbers.{count_of}
use Rattle.elaborate.specs.code.Walking.{seen_in}
use Rattle.elaborate.proofs.Selects.{found_sized, indexed_agrees}
use Rattle.elaborate.proofs.target.indexed.Goals as goal

pub returns : goal.returns
returns c =
    let names = seen_in c.args.walk.now in
    indexed_agrees c.args.needed names c.args.walk.now.scope.vars c.args.at.now c.args.width.now c.args.down (c.in_ok-at.at, c.in_ok-at.at_signed) c.in_ok-width.width _
    (found_sized c.sizes_and_values.ensures names c.args.width.now) c.in_ok-at.ensures c.in_ok-width.ensures
    (c.count.ensures ∙ ap count_of c.number.ensures) (omega (arith, c.count.type_inv)) refl refl refl
