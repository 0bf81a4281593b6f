-- What settling performs is a schedule.
use Rattle.std.proofs.Common.{◌≡◌, ℕ, zero, suc, List, [], ◌∷◌, ◌++◌, refl, subst}
use Rattle.model_stage.specs.Model.{Model}
use Rattle.wrapper_core.specs.declared.event.Event.{Event}
use Rattle.wrapper_core.specs.declared.event.Event.TheVariants.{Own, Update}
use Rattle.wrapper_core.specs.Snapshot.{Calm, Snapshot}
use Rattle.wrapper_core.specs.Events.{Schedule}
use Rattle.settle_loop.specs.Sweeps.{IsVisit, updates, passes, IsSweeping, begins, goes, Sweeps, Settles}

module _ {X : Type 0} (model : X → Model) (answers : ℕ → ℕ → ℕ → Type 0) where
  abbrev Reached : Snapshot X → Snapshot X → Type 0
  Reached s z = (events : List Event) × Schedule model events s z

  schedule_then : (xs ys : List Event) (s t z : Snapshot X) → Schedule model xs s t → Schedule model ys t z → Schedule model (xs ++ ys) s z
  schedule_then [] ys s t z first second = subst (λ x. Schedule model ys x z) first second
  schedule_then (e ∷ xs) ys s t z first second =
      record { enabled = first.enabled; next = first.next; does = first.does; goes = schedule_then xs ys first.next t z first.goes second }

  reached_then : (s t z : Snapshot X) → Reached s t → Reached t z → Reached s z
  reached_then s t z a b = (a.0 ++ b.0, schedule_then a.0 b.0 s t z a.1 b.1)

  visit_reached : (i : ℕ) (s z : Snapshot X) → IsVisit model i s z → Reached s z
  visit_reached i s z (updates enabled run) = (Update i ∷ Own ∷ [], run)
  visit_reached i s z (passes none run) = (Own ∷ [], run)

  sweep_reached : (sweep : ℕ) (s : Snapshot X) (left : List ℕ) (z : Snapshot X) → IsSweeping model answers sweep s left z → Reached s z
  sweep_reached sweep s _ _ begins = ([], refl)
  sweep_reached sweep s _ _ (goes {left} {t} {z} {place} {i} earlier asked at visit) = reached_then s t z (sweep_reached sweep s left t earlier) (visit_reached i t z visit)

  sweeps_reached : (count : ℕ) (s z : Snapshot X) → Sweeps model answers count s z → Reached s z
  sweeps_reached zero s z sweeps = ([], sweeps)
  sweeps_reached (suc count) s z sweeps =
      reached_then s sweeps.before z (sweeps_reached count s sweeps.before sweeps.earlier_sweeps) (sweep_reached (suc count) sweeps.before [] z sweeps.sweep_is)

  pub settles_reached : (count : ℕ) (s z : Snapshot X) → s.phase ≡ Calm → Settles model answers count s z → Reached s z
  settles_reached count s z calm settles =
      let rest = sweeps_reached count settles.first z settles.sweeps in
      (Own ∷ rest.0, record { enabled = calm; next = settles.first; does = settles.own; goes = rest.1 })
