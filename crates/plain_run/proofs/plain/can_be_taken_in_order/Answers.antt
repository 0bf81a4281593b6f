use Rattle.std.proofs.Common.{◌≡◌, List, length, true, false, sym, ◌∙◌, subst, rules}
use Rattle.std.specs.Prelude.{replicate}
use Rattle.std.proofs.lemmas.Grind.{common_steps}
use native.Mathlib.Nat.{le_refl}
use Rattle.std.proofs.lemmas.List.{drop_all, length-map}
use Rattle.std.specs.List.{AllByRecursion}
use Rattle.net_ir.specs.Lawful.{IsLawfulDriver}
use Rattle.plain_run.specs.Plain.{IsTimely, SparesInputs, AreOrdered}
use Rattle.net_ir.specs.declared.design.Var.{Var}
use Rattle.net_ir.specs.declared.design.Driver.{Driver}
use Rattle.plain_run.proofs.Turns.{AreTaken, IsFit, all_fit, first_marks, turn_step, turn_fails}
use Rattle.plain_run.proofs.plain.can_be_taken_in_order.Goals as goal

-- drivers as they are read
fits : (vars vs : List Var) (drivers ds : List Driver) → vs ≡ vars → ds ≡ drivers → AllByRecursion IsTimely drivers →
    AllByRecursion (IsLawfulDriver vars) drivers → AllByRecursion (IsFit vs) ds
fits vars vs drivers ds same_vars same_drivers timely lawful =
    subst (λ v. AllByRecursion (IsFit v) ds) (sym same_vars)
    (subst (AllByRecursion (IsFit vars)) (sym same_drivers) (all_fit vars drivers timely lawful))

fine : (vars vs : List Var) (drivers ds : List Driver) → vs ≡ vars → ds ≡ drivers →
    AllByRecursion (SparesInputs vars) drivers × AreOrdered drivers → AllByRecursion (SparesInputs vs) ds × AreOrdered ds
fine vars vs drivers ds same_vars same_drivers both =
    subst (λ v. AllByRecursion (SparesInputs v) ds × AreOrdered ds) (sym same_vars)
    (subst (λ d. AllByRecursion (SparesInputs vars) d × AreOrdered d) (sym same_drivers) both)

pub loop-turn-init : goal.loop-turn-init
loop-turn-init c =
    let vars = c.as_slice-vars.result.now in
    let drivers = c.as_slice-drivers.result.now in
    let first = c.in_ok-written.written.items in
    let second = c.in_ok-driven.driven.items in
    let written : c.in_ok-written.written.items ≡ replicate (length vars) false = search (rules, common_steps) in
    let driven : c.in_ok-driven.driven.items ≡ replicate (length vars) false = search (rules, common_steps) in
    subst (λ ds. AreTaken vars ds first second) (sym (drop_all (length drivers) drivers (le_refl _)))
    (record { marks = first_marks (length vars) _ first second written driven (sym (length-map vars (λ v. v.width))); spares = tt; ordered = tt })

pub loop-turn-preserved : goal.loop-turn-preserved
loop-turn-preserved c =
    let vars = c.as_slice-vars.result.now in
    let drivers = c.as_slice-drivers.result.now in
    let spec = c.args.spec.now in
    let turn = c.in_ok-take_turn.ensures in
    turn_step vars drivers c.loop-turn.turn c.index-drivers-turn.result c.loop-turn.written.items c.loop-turn.driven.items
    c.take_turn.new.written.items c.take_turn.new.driven.items
    (fits spec.vars vars spec.drivers drivers c.as_slice-vars.ensures c.as_slice-drivers.ensures c.requires.timely c.requires.lawful)
    c.loop-turn-test.true c.loop-turn.auto.turn c.index-drivers-turn.is c.loop-turn.invariant (sym turn.free ∙ c.if-not-branch.false) turn.written turn.driven

pub returns-then-not-branch : goal.returns-then-not-branch
returns-then-not-branch c =
    let vars = c.as_slice-vars.result.now in
    let drivers = c.as_slice-drivers.result.now in
    let spec = c.args.spec.now in (
      (λ no. absurd (let clash : false ≡ true = no in cc)),
      (λ both. absurd (turn_fails vars drivers c.loop-turn.turn c.index-drivers-turn.result c.loop-turn.written.items c.loop-turn.driven.items
          (fits spec.vars vars spec.drivers drivers c.as_slice-vars.ensures c.as_slice-drivers.ensures c.requires.timely c.requires.lawful)
          c.loop-turn-test.true c.loop-turn.auto.turn c.index-drivers-turn.is c.loop-turn.invariant
          (sym c.in_ok-take_turn.ensures.free ∙ c.if-not-branch.true)
          (fine spec.vars vars spec.drivers drivers c.as_slice-vars.ensures c.as_slice-drivers.ensures both))),
    )
