use Rattle.std.proofs.Common.{◌≡◌, ◌<◌, ◌∙◌, inl, inr, sym, ap, arith}
use Rattle.std.specs.Prelude.{slice_get}
use Rattle.std.proofs.lemmas.Bool.{cases_eq}
use Rattle.std.proofs.lemmas.Option.{slice_get_within}
use Rattle.leaf_model.specs.declared.leaf.Leaf.{Leaf}
use Rattle.wrapper_core.specs.World.{moment_of}
use Rattle.settle_loop_tests.proofs.Kept.{child_is}
use Rattle.settle_loop_tests.proofs.board.has_room.Goals as goal

pub loop-i-preserved : goal.loop-i-preserved
loop-i-preserved c = λ j x low at.
    let children = (moment_of c.args.w.now).children in
    let i = c.loop-i.i in
    elim (cases_eq j i) [
      | inl here ↦
          let kid : x.child ≡ c.child.result.now = child_is children i x c.child.result.now (ap (slice_get children) (sym here) ∙ at) c.child.ensures in
          let number : x.child.number ≡ c.number.result = ap (λ (y : Leaf). y.number) kid ∙ sym c.number.ensures in
          omega (arith, number)
      | inr other ↦ c.loop-i.invariant j x (let e : j < i = omega (arith, low, other) in e) at
    ]

pub returns : goal.returns
returns c = λ yes j x at.
    let inside = slice_get_within (moment_of c.args.w.now).children j x at in
    c.loop-i.invariant j x (let e : j < c.loop-i.i = omega (arith, inside, c.loop-i-test.false, c.children-i-end.ensures) in e) at
