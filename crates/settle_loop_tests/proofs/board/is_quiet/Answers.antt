use Rattle.std.proofs.Common.{◌<◌, inl, inr, subst, arith}
use Rattle.std.proofs.lemmas.Bool.{cases_eq}
use Rattle.std.proofs.lemmas.Option.{slice_get_within}
use Rattle.wrapper_core.specs.Events.{IsUpdatable}
use Rattle.wrapper_core.specs.World.{moment_of}
use Rattle.settle_loop_tests.proofs.board.is_quiet.Goals as goal

pub loop-i-preserved : goal.loop-i-preserved
loop-i-preserved g c = λ j low up.
    elim (cases_eq j c.loop-i.i) [
      | inl here ↦
          let yes = c.if-enabled.ensures.1 (subst (IsUpdatable g.C.Child.model (moment_of c.args.w.now)) here up) in
          let clash : ⊥ = cc yes in
          clash
      | inr other ↦ c.loop-i.invariant j (let e : j < c.loop-i.i = omega (arith, low, other) in e) up
    ]

pub returns : goal.returns
returns g c = λ yes j up.
    let inside = slice_get_within (moment_of c.args.w.now).children j up.was up.was_at in
    c.loop-i.invariant j (let e : j < c.loop-i.i = omega (arith, inside, c.loop-i-test.false, c.children-i-end.ensures) in e) up
