-- The parts of a step of the clocks.
use Rattle.std.proofs.Common.{◌≡◌, ℕ, ◌+◌, ◌<◌, ◌≤◌, inl, inr, Bool, List, [], ◌∷◌, ◌++◌, length, map, refl, sym, ◌∙◌, ap, subst, arith}
use Rattle.std.specs.Prelude.{slice_get, Some}
use Rattle.std.proofs.lemmas.List.{length-set}
use Rattle.std.proofs.lemmas.Option.{same_Some, slice_get_within}
use Rattle.code_isa.specs.declared.machine.Machine.{Machine}
use Rattle.code_isa.specs.Tree.{node, forest_of}
use Rattle.code_isa.specs.Traces.{sampled}
use Rattle.model_stage.specs.Model.{Model}
use Rattle.wrapper_core.specs.declared.event.Event.TheVariants.{StrikeOwn, Strike, Commit}
use Rattle.wrapper_core.specs.declared.wrapped.Wrapped.{Wrapped}
use Rattle.wrapper_core.specs.Snapshot.{Snapshot, with_children, with_levels, tree_in}
use Rattle.wrapper_core.specs.Events.{IsStrikable, IsCommittable, DoesStrike, DoesStrikeOwn, DoesCommit, HasRoom, Schedule}
use Rattle.wrapper_core.proofs.Running.{schedule_push}
use Rattle.wrapper_core.proofs.Schedules.{published_at, published_each}
use Rattle.wrapper_core.proofs.Clocking.{get_or_first}
use Rattle.settle_loop.specs.Kept.{Keeps}
use Rattle.settle_loop.proofs.Kept.{found_in}
use Rattle.settle_loop.proofs.Visiting.{set_cases}
use Rattle.model_handle.proofs.Moves.{maps_same}
use Rattle.model_handle.specs.Striking.{IsSampled, IsStruckOnce, StrikesFirst, StepsClocks}

module _ {X : Type 0} (model : X → Model) where
  pub none_struck : (s : Snapshot X) → StrikesFirst model 0 s s
  none_struck s = record {
    reached = record { events = []; schedule = refl };
    rest = refl;
    each = refl;
    done = λ i c d low. absurd (let clash : ⊥ = omega (arith, low) in clash);
    left = λ i c d low ci di. same_Some d c (sym di ∙ ci);
  }

  -- the next child may be struck
  pub next_strikable : (s t : Snapshot X) (i : ℕ) → IsSampled s → StrikesFirst model i s t → i < length s.children → IsStrikable t i
  next_strikable s t i is was inside =
      let phase : t.phase ≡ s.phase = ap (λ (x : Snapshot X). x.phase) was.rest in
      let old = get_or_first s.children i inside in
      let now = get_or_first t.children i (let e : i < length t.children = omega (arith, inside, was.each) in e) in
      record {
        before = is.before;
        sampled = Some is.sampled;
        striking = phase ∙ is.striking;
        was = now.0;
        was_at = now.1;
        unstruck = ap (λ (c : Wrapped X). c.struck) (was.left i old.0 now.0 (omega arith) old.1 now.1) ∙ is.unstruck i old.0 old.1;
      }

  -- and has the room that it had
  pub next_room : (s t : Snapshot X) (i : ℕ) → StrikesFirst model i s t → HasRoom model 1 s → (c : Wrapped X) → slice_get t.children i ≡ Some c → 0 < (model c.child).room
  next_room s t i was room c ci =
      let old = found_in s.children t.children i c c was.each ci in
      subst (λ (x : Wrapped X). 0 < (model x.child).room) (sym (was.left i old.0 c (omega arith) old.1 ci)) (room i old.0 old.1)

  -- one child more is struck
  pub more_struck : (s t z : Snapshot X) (i : ℕ) → StrikesFirst model i s t → IsStrikable t i → DoesStrike model i t z → StrikesFirst model (i + 1) s z
  more_struck s t z i was enabled does = record {
    reached = record {
      events = was.reached.events ++ Strike i ∷ [];
      schedule = schedule_push model was.reached.events (Strike i) s t z was.reached.schedule enabled does;
    };
    rest = does.rest ∙ ap (λ x. with_children x z.children) was.rest;
    each = ap length does.at.rest ∙ length-set t.children i does.at.now ∙ was.each;
    done = λ j c d low cj dj. elim (set_cases t.children i j does.at.now d (ap (λ xs. slice_get xs j) (sym does.at.rest) ∙ dj)) [
      | inl here ↦
          let old : does.at.was ≡ c = was.left j c does.at.was (omega (arith, here.0)) cj (ap (slice_get t.children) here.0 ∙ does.at.was_at) in
          let same : (model d.child).tree ≡ (model does.at.now.child).tree = ap (λ (x : Wrapped X). (model x.child).tree) here.1 in
          let left : (model d.child).room ≡ (model does.at.now.child).room = ap (λ (x : Wrapped X). (model x.child).room) here.1 in
          let tree : (model d.child).tree ≡ (model does.at.was.child).tree = same ∙ does.at.strikes.tree in
          let room : (model does.at.was.child).room ≤ (model d.child).room + 1 = omega (arith, left, does.at.strikes.room) in
          (ap (λ (x : Wrapped X). x.struck) here.1 ∙ does.at.struck, subst (λ x. IsStruckOnce model x d) old (record { tree = tree; room = room }))
      | inr there ↦ was.done j c d (omega (arith, low, there.0)) cj there.1
    ];
    left = λ j c d high cj dj. elim (set_cases t.children i j does.at.now d (ap (λ xs. slice_get xs j) (sym does.at.rest) ∙ dj)) [
      | inl here ↦ absurd (let clash : ⊥ = omega (arith, high, here.0) in clash)
      | inr there ↦ was.left j c d (omega (arith, high)) cj there.1
    ];
  }

  -- the parts of a whole step: levels, registers, children, and the commit
  module _ (levels : List Bool) (s a t u z : Snapshot X) (begins : a ≡ with_levels s levels) (samples : DoesStrikeOwn a t) (strikes : StrikesFirst model (length u.children) t u) (commits : DoesCommit model u z) where
    pub step_reached : IsCommittable u → Schedule model (StrikeOwn ∷ (strikes.reached.events ++ Commit ∷ [])) a z
    step_reached committable = record {
      enabled = record { before = samples.before; striking = samples.striking };
      next = t;
      does = samples;
      goes = schedule_push model strikes.reached.events Commit t u z strikes.reached.schedule committable commits;
    }

    children_same : t.children ≡ s.children
    children_same = ap (λ (x : Snapshot X). x.children) samples.rest ∙ ap (λ (x : Snapshot X). x.children) begins

    pub steps_clocks : StepsClocks model levels s z
    steps_clocks = record {
      code = ap (λ (x : Snapshot X). x.code) commits.rest ∙ ap (λ (x : Snapshot X). x.code) strikes.rest ∙ ap (λ (x : Snapshot X). x.code) samples.rest ∙ ap (λ (x : Snapshot X). x.code) begins;
      held = ap (λ (x : Snapshot X). x.held) commits.rest ∙ ap (λ (x : Snapshot X). x.held) strikes.rest ∙ ap (λ (x : Snapshot X). x.held) samples.rest ∙ ap (λ (x : Snapshot X). x.held) begins;
      levels_are = ap (λ (x : Snapshot X). x.levels) commits.rest ∙ ap (λ (x : Snapshot X). x.levels) strikes.rest ∙ ap (λ (x : Snapshot X). x.levels) samples.rest ∙ ap (λ (x : Snapshot X). x.levels) begins;
      each = published_each model u.children z.children commits.published ∙ strikes.each ∙ ap length children_same;
      children = λ i c d ci di.
          let mid = published_at model u.children z.children i d commits.published di in
          let old : slice_get t.children i ≡ Some c = ap (λ xs. slice_get xs i) children_same ∙ ci in
          let once = (strikes.done i c mid.0 (slice_get_within u.children i mid.0 mid.1) old mid.1).1 in
          let tree : (model d.child).tree ≡ (model mid.0.child).tree = ap (λ (x : Model). x.tree) mid.2.publishes in
          let room : (model d.child).room ≡ (model mid.0.child).room = ap (λ (x : Model). x.room) mid.2.publishes in
          record { tree = tree ∙ once.tree; room = omega (arith, room, once.room) };
    }

  -- once all children are struck, the step may be committed
  pub step_committable : (a t u : Snapshot X) → DoesStrikeOwn a t → StrikesFirst model (length u.children) t u → IsCommittable u
  step_committable a t u samples strikes = record {
    before = samples.before;
    sampled = sampled samples.before a.levels a.slots a.code.regs a.registers;
    striking = ap (λ (x : Snapshot X). x.phase) strikes.rest ∙ ap (λ (x : Snapshot X). x.phase) samples.rest;
    struck = λ i d di.
        let old = found_in t.children u.children i d d strikes.each di in
        (strikes.done i old.0 d (slice_get_within u.children i d di) old.1 di).0;
  }

  -- ---- after a whole step

  module _ (levels : List Bool) (s t : Snapshot X) (steps : StepsClocks model levels s t) where
    pub tree_stepped : tree_in model t ≡ tree_in model s
    tree_stepped =
        ap (λ m. node m (forest_of (map (λ (c : Wrapped X). (model c.child).tree) t.children))) steps.code
        ∙ ap (λ ts. node s.code (forest_of ts)) (maps_same (λ (c : Wrapped X). (model c.child).tree) s.children t.children steps.each (λ i c d ci di. (steps.children i c d ci di).tree))

    -- room for settling is left
    pub room_after : HasRoom model (s.code.chain + 2) s → HasRoom model (t.code.chain + 1) t
    room_after room =
        subst (λ (m : Machine). HasRoom model (m.chain + 1) t) (sym steps.code) (λ i d di.
        let old = found_in s.children t.children i d d steps.each di in
        let low = room i old.0 old.1 in
        let once = steps.children i old.0 d old.1 di in
        omega (arith, low, once.room))

    -- a step and settling take no more than a call may
    pub call_takes : (sweeps : ℕ) (z : Snapshot X) → sweeps ≤ t.code.chain + 1 → Keeps model sweeps t z → (i : ℕ) (c d : Wrapped X) → slice_get s.children i ≡ Some c → slice_get z.children i ≡ Some d → (model c.child).room ≤ (model d.child).room + (s.code.chain + 2)
    call_takes sweeps z within keeps i c d ci di =
        let mid = found_in t.children z.children i d d keeps.each di in
        let chain : t.code.chain ≡ s.code.chain = ap (λ (m : Machine). m.chain) steps.code in
        let once = (steps.children i c mid.0 ci mid.1).room in
        let more = (keeps.children i mid.0 d mid.1 di).room in
        omega (arith, once, more, within, chain)
