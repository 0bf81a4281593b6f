-- Schedules that go on, the room that they take, and what they leave.
use Rattle.std.proofs.Common.{◌≡◌, ℕ, ◌+◌, ◌<◌, ◌≤◌, ◌⊎◌, inl, inr, Bool, List, [], ◌∷◌, ◌++◌, length, refl, sym, ◌∙◌, ap, subst, arith}
use Rattle.std.specs.Prelude.{slice_get, Some, None}
use Rattle.code_isa.specs.declared.machine.Kid.{Kid}
use Rattle.code_isa.specs.Traces.{levels_at}
use Rattle.model_stage.specs.Model.{Model}
use Rattle.wrapper_core.specs.declared.event.Event.{Event}
use Rattle.wrapper_core.specs.declared.event.Event.TheVariants.{Own, Update, StrikeOwn, Strike, Commit}
use Rattle.wrapper_core.specs.declared.wrapped.Wrapped.{Wrapped}
use Rattle.wrapper_core.specs.declared.world.World.{World}
use Rattle.wrapper_core.specs.Snapshot.{Calm, Striking, Snapshot}
use Rattle.wrapper_core.specs.Events.{IsEnabled, Does, Schedule, HasRoom, HasRoomFor}
use Rattle.wrapper_core.specs.Striking.{IsStriking, ShowsSame, TakesAllEdges, BeginsStrike}
use Rattle.wrapper_core.specs.World.{phase_of, moment_of, levels_before, levels_by, IsWorld}
use Rattle.wrapper_core.proofs.Schedules.{got_set, published_at, StruckSince, TakenSince, struck_start, struck_all, since_shows, since_takes, since_calm, since_striking}

module _ {X : Type 0} (model : X → Model) where
  pub schedule_push : (events : List Event) (e : Event) (s t z : Snapshot X) → Schedule model events s t → IsEnabled model t e → Does model e t z → Schedule model (events ++ e ∷ []) s z
  schedule_push [] e s t z goes enabled does =
      record { enabled = subst (λ x. IsEnabled model x e) goes enabled; next = z; does = subst (λ x. Does model e x z) goes does; goes = refl }
  schedule_push (x ∷ events) e s t z goes enabled does =
      record { enabled = goes.enabled; next = goes.next; does = goes.does; goes = schedule_push events e goes.next t z goes.goes enabled does }

  -- an event takes at most one of each child's room
  pub room_kept : (e : Event) (n : ℕ) (s z : Snapshot X) → HasRoom model (n + 1) s → Does model e s z → HasRoom model n z
  room_kept Own n s z room does i c at =
      let low = room i c (ap (λ (x : Snapshot X). slice_get x.children i) (sym does.rest) ∙ at) in omega (arith, low)
  room_kept (Update k) n s z room does i c at =
      elim (got_set s.children k i does.at.now c (ap (λ xs. slice_get xs i) (sym does.at.rest) ∙ at)) as (λ w. n ≤ (model c.child).room) [
        | inl here ↦
            let low = room k does.at.was does.at.was_at in
            let same : (model c.child).room ≡ (model does.at.now.child).room = ap (λ (x : Wrapped X). (model x.child).room) here.1 in
            omega (arith, low, does.at.updates.room, same)
        | inr there ↦ let low = room i c there in omega (arith, low)
      ]
  room_kept StrikeOwn n s z room does i c at =
      let low = room i c (ap (λ (x : Snapshot X). slice_get x.children i) (sym does.rest) ∙ at) in omega (arith, low)
  room_kept (Strike k) n s z room does i c at =
      elim (got_set s.children k i does.at.now c (ap (λ xs. slice_get xs i) (sym does.at.rest) ∙ at)) as (λ w. n ≤ (model c.child).room) [
        | inl here ↦
            let low = room k does.at.was does.at.was_at in
            let same : (model c.child).room ≡ (model does.at.now.child).room = ap (λ (x : Wrapped X). (model x.child).room) here.1 in
            omega (arith, low, does.at.strikes.room, same)
        | inr there ↦ let low = room i c there in omega (arith, low)
      ]
  room_kept Commit n s z room does i c at =
      let one = published_at model s.children z.children i c does.published at in
      let low = room i one.0 one.1 in
      let same : (model c.child).room ≡ (model one.0.child).room = ap (λ (x : Model). x.room) one.2.publishes in
      omega (arith, low, same)

  pub room_for : (e : Event) (n : ℕ) (s : Snapshot X) → HasRoom model n s → 0 < n → HasRoomFor model s e
  room_for Own n s room some = tt
  room_for (Update i) n s room some = λ c at. let low = room i c at in omega (arith, low, some)
  room_for StrikeOwn n s room some = tt
  room_for (Strike i) n s room some = λ c at. let low = room i c at in omega (arith, low, some)
  room_for Commit n s room some = tt

  -- ---- since a strike began

  module _ (ready struck : X → Type 0) (w : World X) (was : IsWorld model ready struck w) (start : Snapshot X) (levels : List Bool) (begins : BeginsStrike model levels start (moment_of w)) (events : List Event) (z : Snapshot X) (goes : Schedule model events (moment_of w) z) where
    since : StruckSince model levels start z ⊎ TakenSince model levels start z
    since = struck_all model levels start begins.unstruck events (moment_of w) z (subst (StruckSince model levels start) (sym begins.begins) (struck_start model levels start)) goes

    children_are : w.children.items ≡ start.children
    children_are = ap (λ (x : Snapshot X). x.children) begins.begins

    each : length start.children ≡ length start.code.kids
    each = ap length (sym children_are) ∙ was.core.children_each ∙ ap (λ (x : Snapshot X). length x.code.kids) begins.begins

    joined : (i : ℕ) (kid : Kid) (c : Wrapped X) → slice_get start.code.kids i ≡ Some kid → slice_get start.children i ≡ Some c → (model c.child).levels ≡ levels_at start.levels kid.clocks
    joined i kid c ki ci =
        let phase : phase_of w ≡ Striking start.levels None = ap (λ (x : Snapshot X). x.phase) begins.begins in
        was.joined i kid c (ap (λ (x : Snapshot X). slice_get x.code.kids i) begins.begins ∙ ki) (ap (λ xs. slice_get xs i) children_are ∙ ci)
        ∙ ap (λ p. levels_at (levels_by (levels_before p w.levels.items) w.levels.items c.struck) kid.clocks) phase
        ∙ ap (λ b. levels_at (levels_by start.levels w.levels.items b) kid.clocks) (begins.unstruck i c ci)

    pub shows_same : IsStriking z → ShowsSame model start z
    shows_same striking = since_shows model levels start each z (since_striking model levels start z striking since)

    pub takes_edges : z.phase ≡ Calm → TakesAllEdges model levels start z
    takes_edges calm = since_takes model levels start each joined z (since_calm model levels start z calm since)
