-- A sweep under way.
use Rattle.std.proofs.Common.{◌≡◌, ◌↔◌, ℕ, zero, suc, ◌+◌, ◌<◌, ◌≤◌, inl, inr, Bool, true, false, List, length, replicate, set, get_or, refl, sym, ◌∙◌, ap, subst, arith}
use Rattle.std.specs.Prelude.{slice_get, slice_index, Some}
use Rattle.std.proofs.lemmas.Bool.{cases_lt}
use Rattle.std.proofs.lemmas.List.{length-set}
use Rattle.std.proofs.lemmas.Option.{same_Some, slice_get_within, slice_get-get_or}
use Rattle.code_isa.specs.declared.machine.Kid.{Kid}
use Rattle.code_isa.specs.declared.machine.Machine.{Machine}
use Rattle.code_isa.specs.Checks.{IsChecked}
use Rattle.code_isa.specs.Tree.{States}
use Rattle.code_isa.proofs.One.{machine_slots}
use Rattle.model_stage.specs.Model.{Model, IsReady}
use Rattle.wrapper_core.specs.declared.wrapped.Wrapped.{Wrapped}
use Rattle.wrapper_core.specs.Snapshot.{Calm, Snapshot, all_shown, with_slots, with_visited}
use Rattle.wrapper_core.specs.Events.{DoesOwn, HasRoom}
use Rattle.wrapper_core.specs.declared.world.World.{World}
use Rattle.wrapper_core.specs.World.{IsWorld, moment_of}
use Rattle.settle_loop.specs.Sweeps.{unset_from, IsStale, IsSweep, Sweeps}
use Rattle.settle_loop.specs.Kept.{IsKept, Keeps}
use Rattle.settle_loop.specs.Finality.{IsFresh, IsEnd, IsFinalAt, IsFinal, IsWhole}
use Rattle.settle_loop.proofs.Marks.{none_left}
use Rattle.settle_loop.proofs.Kept.{kept_none, kept_more, found_in}
use Rattle.settle_loop.proofs.Visiting.{updatable_marked, updatable_back, set_cases, true_false, Outcome, outcome_each, outcome_child}
use Rattle.settle_loop.proofs.Below.{below_none}
use Rattle.settle_loop.proofs.Ending.{world_whole, end_kept, visited_final, final_kept, end_exists, all_delivered}

-- no item of a list of clear marks is set
clear_at : (n j : ℕ) → slice_get (replicate n false) j ≡ Some true → ⊥
clear_at zero j at = let clash : ⊥ = cc in clash
clear_at (suc n) zero at = let clash : ⊥ = cc in clash
clear_at (suc n) (suc j) at = clear_at n j at

module _ {X : Type 0} (model : X → Model) where
  -- since the moment s each child that is marked was visited once, and the others were left alone
  pub record IsUnder (s z : Snapshot X) : Type 0 where
    pub code : z.code ≡ s.code
    pub held : z.held ≡ s.held
    pub registers : z.registers ≡ s.registers
    pub levels : z.levels ≡ s.levels
    pub phase : z.phase ≡ s.phase
    pub each : length z.children ≡ length s.children
    pub marks : length z.visited ≡ length s.children
    pub left : (j : ℕ) (c d : Wrapped X) → slice_get z.visited j ≡ Some false → slice_get s.children j ≡ Some c → slice_get z.children j ≡ Some d → d ≡ c
    pub kept : (j : ℕ) (c d : Wrapped X) → slice_get s.children j ≡ Some c → slice_get z.children j ≡ Some d → IsKept model 1 c d
    pub fresh : IsFresh z
    pub end : (u : List ℕ) (states : States) → IsEnd model s u states → IsEnd model z u states
    pub kept_final : (n : ℕ) (u : List ℕ) (states : States) → IsEnd model s u states → IsFinal model n u s → IsFinal model n u z
    pub more_final : (n : ℕ) (u : List ℕ) (states : States) → IsEnd model s u states → IsFinal model n u s → (j : ℕ) (kid : Kid) (d : Wrapped X) →
        slice_get z.visited j ≡ Some true → slice_get z.code.kids j ≡ Some kid → slice_get z.children j ≡ Some d → IsFinalAt z.code (n + 1) u kid (model d.child).state

  pub under_start : (s : Snapshot X) (n : ℕ) → s.visited ≡ replicate n false → length s.visited ≡ length s.children → IsFresh s → IsUnder s s
  under_start s n clear marks fresh = record {
    code = refl;
    held = refl;
    registers = refl;
    levels = refl;
    phase = refl;
    each = refl;
    marks = marks;
    left = λ j c d unset cj dj. same_Some d c (sym dj ∙ cj);
    kept = λ j c d cj dj. subst (IsKept model 1 c) (same_Some c d (sym cj ∙ dj)) (kept_more model 0 1 c c (omega arith) (kept_none model c));
    fresh = fresh;
    end = λ u states end. end;
    kept_final = λ n u states end final. final;
    more_final = λ k u states end final j kid d set_so. absurd (clear_at n j (ap (λ xs. slice_get xs j) (sym clear) ∙ set_so));
  }

  -- one more visit, of a child that is left
  module _ (i : ℕ) (s t z : Snapshot X) (was : IsUnder s t) (calm : s.phase ≡ Calm) (whole : IsWhole model t) (o : Outcome model i t z) (unset : slice_get t.visited i ≡ Some false) (marked : z.visited ≡ set t.visited i true) where
    left_then : (j : ℕ) (c d : Wrapped X) → slice_get z.visited j ≡ Some false → slice_get s.children j ≡ Some c → slice_get z.children j ≡ Some d → d ≡ c
    left_then j c d unset_j cj dj =
        let mid = found_in t.children s.children j c c (sym was.each) cj in
        elim (set_cases t.visited i j true false (ap (λ xs. slice_get xs j) (sym marked) ∙ unset_j)) [
          | inl here ↦ absurd (true_false (sym here.1))
          | inr there ↦ elim (outcome_child model i t z o j mid.0 d mid.1 dj) [
            | inl visited ↦ absurd (there.0 visited.0)
            | inr same ↦ same ∙ was.left j c mid.0 there.1 cj mid.1
          ]
        ]

    kept_then : (j : ℕ) (c d : Wrapped X) → slice_get s.children j ≡ Some c → slice_get z.children j ≡ Some d → IsKept model 1 c d
    kept_then j c d cj dj =
        let mid = found_in t.children s.children j c c (sym was.each) cj in
        elim (outcome_child model i t z o j mid.0 d mid.1 dj) [
          | inl visited ↦
              let same : mid.0 ≡ c = was.left j c mid.0 (ap (slice_get t.visited) visited.0 ∙ unset) cj mid.1 in
              subst (λ x. IsKept model 1 x d) same visited.1
          | inr same ↦ subst (IsKept model 1 c) (sym same) (was.kept j c mid.0 cj mid.1)
        ]

    calm_now : t.phase ≡ Calm
    calm_now = was.phase ∙ calm

    more_then : (n : ℕ) (u : List ℕ) (states : States) → IsEnd model s u states → IsFinal model n u s → (j : ℕ) (kid : Kid) (d : Wrapped X) →
        slice_get z.visited j ≡ Some true → slice_get z.code.kids j ≡ Some kid → slice_get z.children j ≡ Some d → IsFinalAt z.code (n + 1) u kid (model d.child).state
    more_then n u states end final j kid d set_so kj dj =
        elim (visited_final model i t z o calm_now whole was.fresh n u states (was.end u states end) (was.kept_final n u states end final) j kid d kj dj) as (λ _. IsFinalAt z.code (n + 1) u kid (model d.child).state) [
          | inl here ↦ here.1
          | inr there ↦ elim (set_cases t.visited i j true true (ap (λ xs. slice_get xs j) (sym marked) ∙ set_so)) as (λ _. IsFinalAt z.code (n + 1) u kid (model d.child).state) [
            | inl here ↦ absurd (there.0 here.0)
            | inr before ↦
                subst (λ m. IsFinalAt m (n + 1) u kid (model d.child).state) (sym o.code)
                (was.more_final n u states end final j kid d before.1 (ap (λ (m : Machine). slice_get m.kids j) (sym o.code) ∙ kj) there.1)
          ]
        ]

    pub under_visit : IsUnder s z
    under_visit = record {
      code = o.code ∙ was.code;
      held = o.held ∙ was.held;
      registers = o.registers ∙ was.registers;
      levels = o.levels ∙ was.levels;
      phase = o.phase ∙ was.phase;
      each = outcome_each model i t z o ∙ was.each;
      marks = ap length marked ∙ length-set t.visited i true ∙ was.marks;
      left = left_then;
      kept = kept_then;
      fresh = o.fresh;
      end = λ u states end. end_kept model i t z o u states (was.end u states end);
      kept_final = λ n u states end final. final_kept model i t z o calm_now whole was.fresh n u states (was.end u states end) (was.kept_final n u states end final);
      more_final = more_then;
    }

  -- a child that is left has the room that it had
  pub under_room : (s z : Snapshot X) (n i : ℕ) → IsUnder s z → HasRoom model n s → slice_get z.visited i ≡ Some false → (c : Wrapped X) → slice_get z.children i ≡ Some c → n ≤ (model c.child).room
  under_room s z n i under room unset c ci =
      let old = found_in s.children z.children i c c under.each ci in
      subst (λ (x : Wrapped X). n ≤ (model x.child).room) (sym (under.left i old.0 c unset old.1 ci)) (room i old.0 old.1)

  -- at the end, whatever the marks are then
  module _ (s z : Snapshot X) (v : List Bool) (under : IsUnder s z) where
    pub under_keeps : Keeps model 1 s (with_visited z v)
    under_keeps = record {
      code = under.code;
      held = under.held;
      registers = under.registers;
      levels = under.levels;
      phase = under.phase;
      each = under.each;
      children = under.kept;
    }

    pub under_end : (u : List ℕ) (states : States) → IsEnd model s u states → IsEnd model (with_visited z v) u states
    under_end u states end = let now = under.end u states end in record { settled = now.settled; same = now.same }

    pub under_final : length (unset_from 0 z.visited) ≡ 0 → (n : ℕ) (u : List ℕ) (states : States) → IsEnd model s u states → IsFinal model n u s → IsFinal model (n + 1) u (with_visited z v)
    under_final none n u states end final j kid d kj dj =
        let inside : j < length z.visited = omega (arith, under.each, under.marks, slice_get_within z.children j d dj) in
        let mark = slice_get-get_or z.visited j true inside in
        under.more_final n u states end final j kid d (mark ∙ ap (λ b. Some b) (none_left 0 z.visited j (get_or z.visited j true) none mark)) kj dj

  -- ---- several sweeps

  -- at first nothing is known to be delivered
  pub none_final : (s : Snapshot X) (u : List ℕ) → IsFinal model 0 u s
  none_final s u i kid c ki ci p below = absurd (below_none s.code (slice_index kid.ins p) below)

  -- after as many sweeps as the chain and one more, no update is enabled
  pub sweeps_left : (s z : Snapshot X) (count : ℕ) → IsWhole model s → IsFresh s → IsWhole model z → IsFresh z → z.code ≡ s.code → count ≤ s.code.chain + 1 →
      ((u : List ℕ) (states : States) → IsEnd model s u states → IsEnd model z u states × IsFinal model count u z) → IsStale model z → count < s.code.chain + 1
  sweeps_left s z count whole_s fresh_s whole_z fresh_z code within nearer stale =
      elim (cases_lt count (s.code.chain + 1)) [
        | inl more ↦ more
        | inr all ↦
            let last = end_exists model s whole_s fresh_s in
            let now = nearer last.0 last.1 last.2 in
            let same : count ≡ z.code.chain + 1 = (let e : count ≡ s.code.chain + 1 = omega (arith, within, all) in e) ∙ ap (λ (m : Machine). m.chain + 1) (sym code) in
            absurd (all_delivered model z last.0 last.1 whole_z fresh_z now.0 (subst (λ n. IsFinal model n last.0 z) same now.1) stale)
      ]

  pub room_less : (s : Snapshot X) (n k : ℕ) → k ≤ n → HasRoom model n s → HasRoom model k s
  room_less s n k low room i c ci = let more = room i c ci in omega (arith, more)

  -- ---- the first of several sweeps

  module _ (answers : ℕ → ℕ → ℕ → Type 0) where
    pub sweeps_more : (count : ℕ) (s t z : Snapshot X) → Sweeps model answers count s t → IsStale model t → IsSweep model answers (count + 1) t z → Sweeps model answers (count + 1) s z
    sweeps_more count s t z earlier stale sweep =
        let next : count + 1 ≡ suc count = omega arith in
        subst (λ n. Sweeps model answers n s z) (sym next) (record { before = t; earlier_sweeps = earlier; stale = stale; sweep_is = subst (λ n. IsSweep model answers n t z) next sweep })

    first_stale : (count : ℕ) (s z : Snapshot X) → Sweeps model answers (suc count) s z → IsStale model s
    first_stale zero s z sweeps = subst (IsStale model) sweeps.earlier_sweeps sweeps.stale
    first_stale (suc count) s z sweeps = first_stale count s sweeps.before sweeps.earlier_sweeps

    -- no sweep is made exactly where no update was enabled
    pub no_sweeps : (count : ℕ) (s z : Snapshot X) → Sweeps model answers count s z → (IsStale model z → ⊥) → (count ≡ 0) ↔ (IsStale model s → ⊥)
    no_sweeps zero s z sweeps none = (λ _ stale. none (subst (IsStale model) (sym sweeps) stale), λ _. refl)
    no_sweeps (suc count) s z sweeps none = (λ e. absurd (let clash : ⊥ = omega (arith, e) in clash), λ no. absurd (no (first_stale count s z sweeps)))

  -- where own code is run from two moments that differ in marks, an update is enabled after both or after none
  stale_marked : (s : Snapshot X) (v : List Bool) → IsStale model s → IsStale model (with_visited s v)
  stale_marked s v stale = record { child = stale.child; enabled = updatable_marked model s s v stale.child stale.enabled }

  stale_back : (s : Snapshot X) (v : List Bool) → IsStale model (with_visited s v) → IsStale model s
  stale_back s v stale = record { child = stale.child; enabled = updatable_back model s s v stale.child stale.enabled }

  own_same : (s t z : Snapshot X) (v : List Bool) → IsChecked s.code → DoesOwn s t → DoesOwn (with_visited s v) z → z ≡ with_visited t v
  own_same s t z v checked a b =
      let slots : z.slots ≡ t.slots = machine_slots s.code s.held s.registers z.slots (all_shown s.children) s.held s.registers t.slots (all_shown s.children) checked b.filled a.filled refl (λ _ _. refl) refl in
      b.rest ∙ ap (λ u. with_visited (with_slots s u) v) slots ∙ ap (λ (x : Snapshot X). with_visited x v) (sym a.rest)

  pub stale_same : (s t z : Snapshot X) (v : List Bool) → IsChecked s.code → DoesOwn s t → DoesOwn (with_visited s v) z → (IsStale model t → ⊥) ↔ (IsStale model z → ⊥)
  stale_same s t z v checked a b =
      let same : z ≡ with_visited t v = own_same s t z v checked a b in (
        λ none stale. none (stale_back t v (subst (IsStale model) same stale)),
        λ none stale. none (subst (IsStale model) (sym same) (stale_marked t v stale)),
      )

-- ---- worlds

module _ {X : Type 0} (model : X → Model) (ready struck : X → Type 0) (law : (c : X) → ready c → IsReady (model c)) (w v : World X) (count : ℕ) (was : IsWorld model ready struck w) (checked : IsChecked (moment_of w).code) (calm : (moment_of w).phase ≡ Calm) (fresh : IsFresh (moment_of w)) (now : IsWorld model ready struck v) (fresh_now : IsFresh (moment_of v)) (keeps : Keeps model count (moment_of w) (moment_of v)) (within : count ≤ (moment_of w).code.chain + 1) (nearer : (u : List ℕ) (states : States) → IsEnd model (moment_of w) u states → IsEnd model (moment_of v) u states × IsFinal model count u (moment_of v)) (stale : IsStale model (moment_of v)) where
  -- a world that has made some sweeps and in which an update is enabled has not made them all
  pub world_left : count < (moment_of w).code.chain + 1
  world_left =
      sweeps_left model (moment_of w) (moment_of v) count (world_whole model ready struck law w was checked calm) fresh
      (world_whole model ready struck law v now (subst IsChecked (sym keeps.code) checked) (keeps.phase ∙ calm)) fresh_now keeps.code within nearer stale
