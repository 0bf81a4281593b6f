use Rattle.std.proofs.Common.{◌≡◌, false, length, replicate, refl, sym, ◌∙◌, ap, subst}
use Rattle.wrapper_core.specs.Snapshot.{Snapshot}
use Rattle.wrapper_core.specs.Events.{DoesOwn, DoesUpdate}
use Rattle.wrapper_core.specs.World.{moment_of}
use Rattle.settle_loop.specs.Sweeps.{unmarked, IsVisit}
use Rattle.settle_loop.proofs.Visiting.{visit_updates, visit_passes, marked_after, true_false}
use Rattle.settle_loop.proofs.visits.visit.Goals.{then-enabled, else-enabled}
use Rattle.settle_loop.proofs.visits.visit.Goals as goal

pub step-requires-clause-enabled : goal.step-requires-clause-enabled
step-requires-clause-enabled g c = c.if-enabled.ensures.0 refl

pub returns-clause-visit : goal.returns-clause-visit
returns-clause-visit g c =
    let model = g.C.Child.model in
    let s = moment_of c.args.w.now in
    let z = moment_of c.step-2.new.w in
    let marks = replicate (length s.visited) false in
    elim c.if-enabled.branch [
      | then-enabled w ↦
          let own : DoesOwn (moment_of w.step.new.w) z = subst (λ x. DoesOwn (moment_of x) z) w.w-is c.step-2.ensures.does in
          let first : DoesUpdate model c.args.i s (moment_of w.step.new.w) = w.step.ensures.does in
          let same : z.visited ≡ s.visited = ap (λ (x : Snapshot _). x.visited) own.rest ∙ ap (λ (x : Snapshot _). x.visited) first.rest in
          subst (IsVisit model c.args.i (unmarked s)) (sym (marked_after s z (moment_of c.visit.new.self) c.args.i same c.visit.ensures.visited))
          (visit_updates model c.args.i s (moment_of w.step.new.w) z marks (c.enabled.ensures.0 w.if-enabled.true) first own)
      | else-enabled w ↦
          let own : DoesOwn s z = subst (λ x. DoesOwn (moment_of x) z) w.w-is c.step-2.ensures.does in
          let same : z.visited ≡ s.visited = ap (λ (x : Snapshot _). x.visited) own.rest in
          subst (IsVisit model c.args.i (unmarked s)) (sym (marked_after s z (moment_of c.visit.new.self) c.args.i same c.visit.ensures.visited))
          (visit_passes model c.args.i s z marks c.requires.calm (λ up. absurd (true_false (sym (c.enabled.ensures.1 up) ∙ w.if-enabled.false))) own)
    ]
