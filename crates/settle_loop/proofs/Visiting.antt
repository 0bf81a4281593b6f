-- What a visit does to a world.
use Rattle.std.proofs.Common.{◌≡◌, ◌≢◌, ℕ, zero, suc, ◌⊎◌, inl, inr, Bool, true, false, List, [], ◌∷◌, length, replicate, set, refl, sym, ◌∙◌, ap, subst, arith}
use Rattle.std.specs.Prelude.{slice_get, Some}
use Rattle.std.proofs.lemmas.List.{length-set}
use Rattle.std.proofs.lemmas.Option.{none-some, same_Some}
use Rattle.code_isa.specs.Settled.{IsFilled}
use Rattle.model_stage.specs.Model.{Model}
use Rattle.wrapper_core.specs.declared.wrapped.Wrapped.{Wrapped}
use Rattle.wrapper_core.specs.Snapshot.{Calm, Snapshot, all_shown, with_visited}
use Rattle.wrapper_core.specs.Events.{IsUpdatable, DoesOwn, DoesUpdate, UpdatesAt}
use Rattle.settle_loop.specs.Sweeps.{unmarked, IsVisit, updates, passes}
use Rattle.settle_loop.specs.Kept.{IsKept}
use Rattle.settle_loop.specs.Finality.{IsFresh}

-- an item of a list one item of which was set
pub set_cases : {Y : Type 0} (xs : List Y) (i j : ℕ) (y d : Y) → slice_get (set xs i y) j ≡ Some d → ((j ≡ i) × (d ≡ y)) ⊎ ((j ≢ i) × (slice_get xs j ≡ Some d))
set_cases [] i j y d at = absurd (none-some d at)
set_cases (x ∷ xs) zero zero y d at = inl (refl, sym (same_Some y d at))
set_cases (x ∷ xs) zero (suc j) y d at = inr (λ e. let clash : ⊥ = omega (arith, e) in clash, at)
set_cases (x ∷ xs) (suc i) zero y d at = inr (λ e. let clash : ⊥ = omega (arith, e) in clash, at)
set_cases (x ∷ xs) (suc i) (suc j) y d at =
    elim (set_cases xs i j y d at) [
      | inl here ↦ inl (ap suc here.0, here.1)
      | inr there ↦ inr (λ e. there.0 (let same : j ≡ i = omega (arith, e) in same), there.1)
    ]

-- the slots after own code was run are those that it leaves
pub own_fresh : {X : Type 0} (s z : Snapshot X) → DoesOwn s z → IsFresh z
own_fresh {X} s z does = subst (λ (x : Snapshot X). IsFilled x.code x.held x.registers z.slots (all_shown x.children)) (sym does.rest) does.filled

module _ {X : Type 0} (model : X → Model) (i : ℕ) (s z : Snapshot X) where
  -- the child was updated, or no update of it was enabled, and then the own code was run
  pub record Outcome : Type 0 where
    pub code : z.code ≡ s.code
    pub held : z.held ≡ s.held
    pub registers : z.registers ≡ s.registers
    pub levels : z.levels ≡ s.levels
    pub phase : z.phase ≡ s.phase
    pub fresh : IsFresh z
    pub child : UpdatesAt model i s.code s.slots s.children z.children ⊎ ((z.children ≡ s.children) × (IsUpdatable model s i → ⊥))

  pub outcome : IsVisit model i s z → Outcome
  outcome (updates enabled goes) =
      let first = goes.does in
      let own = goes.goes.does in
      let e : z ≡ goes.goes.next = goes.goes.goes in
      record {
        code = ap (λ (x : Snapshot X). x.code) e ∙ ap (λ (x : Snapshot X). x.code) own.rest ∙ ap (λ (x : Snapshot X). x.code) first.rest;
        held = ap (λ (x : Snapshot X). x.held) e ∙ ap (λ (x : Snapshot X). x.held) own.rest ∙ ap (λ (x : Snapshot X). x.held) first.rest;
        registers = ap (λ (x : Snapshot X). x.registers) e ∙ ap (λ (x : Snapshot X). x.registers) own.rest ∙ ap (λ (x : Snapshot X). x.registers) first.rest;
        levels = ap (λ (x : Snapshot X). x.levels) e ∙ ap (λ (x : Snapshot X). x.levels) own.rest ∙ ap (λ (x : Snapshot X). x.levels) first.rest;
        phase = ap (λ (x : Snapshot X). x.phase) e ∙ ap (λ (x : Snapshot X). x.phase) own.rest ∙ ap (λ (x : Snapshot X). x.phase) first.rest;
        fresh = subst IsFresh (sym e) (own_fresh goes.next goes.goes.next own);
        child = inl (subst (UpdatesAt model i s.code s.slots s.children) (sym (ap (λ (x : Snapshot X). x.children) e ∙ ap (λ (x : Snapshot X). x.children) own.rest)) first.at);
      }
  outcome (passes none goes) =
      let own = goes.does in
      let e : z ≡ goes.next = goes.goes in
      record {
        code = ap (λ (x : Snapshot X). x.code) e ∙ ap (λ (x : Snapshot X). x.code) own.rest;
        held = ap (λ (x : Snapshot X). x.held) e ∙ ap (λ (x : Snapshot X). x.held) own.rest;
        registers = ap (λ (x : Snapshot X). x.registers) e ∙ ap (λ (x : Snapshot X). x.registers) own.rest;
        levels = ap (λ (x : Snapshot X). x.levels) e ∙ ap (λ (x : Snapshot X). x.levels) own.rest;
        phase = ap (λ (x : Snapshot X). x.phase) e ∙ ap (λ (x : Snapshot X). x.phase) own.rest;
        fresh = subst IsFresh (sym e) (own_fresh s goes.next own);
        child = inr (ap (λ (x : Snapshot X). x.children) e ∙ ap (λ (x : Snapshot X). x.children) own.rest, none);
      }

  -- there are as many children as before
  pub outcome_each : Outcome → length z.children ≡ length s.children
  outcome_each o = elim o.child [
    | inl one ↦ ap length one.rest ∙ length-set s.children i one.now
    | inr same ↦ ap length same.0
  ]

  -- the child that was visited was updated at most once, and no other one has changed
  pub outcome_child : Outcome → (j : ℕ) (c d : Wrapped X) → slice_get s.children j ≡ Some c → slice_get z.children j ≡ Some d → ((j ≡ i) × IsKept model 1 c d) ⊎ (d ≡ c)
  outcome_child o j c d cj dj = elim o.child [
    | inl one ↦ elim (set_cases s.children i j one.now d (ap (λ xs. slice_get xs j) (sym one.rest) ∙ dj)) [
      | inl here ↦
          let was : one.was ≡ c = same_Some one.was c (sym one.was_at ∙ ap (slice_get s.children) (sym here.0) ∙ cj) in
          let kept : IsKept model 1 one.was one.now = record {
            tree = one.updates.tree;
            levels = one.updates.levels;
            registers = one.updates.registers;
            least = omega (arith, one.updates.number);
            most = omega (arith, one.updates.number);
            room = one.updates.room;
            struck = one.struck;
          } in
          inl (here.0, subst (λ x. IsKept model 1 x d) was (subst (IsKept model 1 one.was) (sym here.1) kept))
      | inr there ↦ inr (same_Some d c (sym there.1 ∙ cj))
    ]
    | inr same ↦ inr (same_Some d c (sym dj ∙ ap (λ xs. slice_get xs j) same.0 ∙ cj))
  ]

-- ---- marks change no event

module _ {X : Type 0} (model : X → Model) (s z : Snapshot X) (v : List Bool) where
  pub updatable_marked : (i : ℕ) → IsUpdatable model s i → IsUpdatable model (with_visited s v) i
  updatable_marked i was = record { calm = was.calm; kid = was.kid; kid_at = was.kid_at; was = was.was; was_at = was.was_at; differs = was.differs }

  pub updatable_back : (i : ℕ) → IsUpdatable model (with_visited s v) i → IsUpdatable model s i
  updatable_back i was = record { calm = was.calm; kid = was.kid; kid_at = was.kid_at; was = was.was; was_at = was.was_at; differs = was.differs }

  pub own_marked : DoesOwn s z → DoesOwn (with_visited s v) (with_visited z v)
  own_marked does = record { filled = does.filled; rest = ap (λ (x : Snapshot X). with_visited x v) does.rest }

  pub update_marked : (i : ℕ) → DoesUpdate model i s z → DoesUpdate model i (with_visited s v) (with_visited z v)
  update_marked i does = record { at = does.at; rest = ap (λ (x : Snapshot X). with_visited x v) does.rest }

module _ {X : Type 0} (model : X → Model) (i : ℕ) where
  -- an update and own code
  pub visit_updates : (s t z : Snapshot X) (v : List Bool) → IsUpdatable model s i → DoesUpdate model i s t → DoesOwn t z → IsVisit model i (with_visited s v) (with_visited z v)
  visit_updates s t z v enabled first own =
      updates (updatable_marked model s s v i enabled) (record {
        enabled = updatable_marked model s s v i enabled;
        next = with_visited t v;
        does = update_marked model s t v i first;
        goes = record {
          enabled = ap (λ (x : Snapshot X). x.phase) first.rest ∙ enabled.calm;
          next = with_visited z v;
          does = own_marked model t z v own;
          goes = refl;
        };
      })

  -- own code alone
  pub visit_passes : (s z : Snapshot X) (v : List Bool) → s.phase ≡ Calm → (IsUpdatable model s i → ⊥) → DoesOwn s z → IsVisit model i (with_visited s v) (with_visited z v)
  visit_passes s z v calm none own =
      passes (λ enabled. none (updatable_back model s s v i enabled)) (record {
        enabled = calm;
        next = with_visited z v;
        does = own_marked model s z v own;
        goes = refl;
      })

  -- what a visit does whatever the marks are
  pub outcome_marked : (s z : Snapshot X) (v w : List Bool) → Outcome model i (with_visited s v) (with_visited z w) → Outcome model i s z
  outcome_marked s z v w o = record {
    code = o.code;
    held = o.held;
    registers = o.registers;
    levels = o.levels;
    phase = o.phase;
    fresh = o.fresh;
    child = elim o.child [
      | inl one ↦ inl one
      | inr still ↦ inr (still.0, λ enabled. still.1 (updatable_marked model s s v i enabled))
    ];
  }

pub true_false : true ≡ false → ⊥
true_false e = let clash : ⊥ = cc in clash

-- a mark is set after the events of a visit
pub marked_after : {X : Type 0} (s t n : Snapshot X) (i : ℕ) → t.visited ≡ s.visited → n ≡ with_visited t (set t.visited i true) → unmarked n ≡ with_visited t (replicate (length s.visited) false)
marked_after {X} s t n i same marked =
    ap unmarked marked ∙ ap (λ k. with_visited t (replicate k false)) (length-set t.visited i true ∙ ap length same)
