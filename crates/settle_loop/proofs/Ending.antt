-- The settled state that a world goes to, and how near each sweep brings it.
use Rattle.std.proofs.Common.{◌≡◌, ◌≢◌, ℕ, zero, suc, ◌+◌, ◌<◌, ◌⊎◌, inl, inr, false, List, [], ◌∷◌, length, map, refl, sym, ◌∙◌, ap, subst, arith}
use Rattle.std.specs.Prelude.{slice_index, slice_get, Some, None, if◌then◌else◌}
use Rattle.std.proofs.lemmas.Bool.{cases_eq}
use Rattle.std.proofs.lemmas.List.{length-map, ext_get_or}
use Rattle.std.proofs.lemmas.Option.{none-some, same_Some, slice_get_within}
use Rattle.bit_ops.specs.Lists.{words}
use Rattle.sv_base.specs.Classes.{is_value}
use Rattle.code_isa.specs.declared.machine.Kid.{Kid}
use Rattle.code_isa.specs.declared.machine.Machine.{Machine}
use Rattle.code_isa.specs.Faces.{ports_of, input_count}
use Rattle.code_isa.specs.Checks.{IsChecked}
use Rattle.code_isa.specs.Tree.{Tree, node, top_of, forest_of, AreLinked, State, state, States, held_of, words_at}
use Rattle.code_isa.specs.Settled.{IsSettled, HaveSameRegisters, HaveAllSame}
use Rattle.code_isa.proofs.Existing.{settled_exists}
use Rattle.code_isa.proofs.One.{words_size}
use Rattle.model_stage.specs.Model.{Model, IsReady}
use Rattle.wrapper_core.specs.declared.wrapped.Wrapped.{Wrapped}
use Rattle.wrapper_core.specs.declared.world.World.{World}
use Rattle.wrapper_core.specs.Snapshot.{Calm, Snapshot, all_shown, states_of, tree_in, state_in}
use Rattle.wrapper_core.specs.World.{IsWorld, moment_of}
use Rattle.wrapper_core.specs.code.Cores.{IsSeated}
use Rattle.wrapper_core.proofs.Settling.{cases_list}
use Rattle.wrapper_core.proofs.Seats.{stands_ready}
use Rattle.wrapper_core.proofs.Worlds.{phase_calm}
use Rattle.wrapper_core.proofs.Clocking.{get_or_first}
use Rattle.settle_loop.specs.Sweeps.{IsStale}
use Rattle.settle_loop.specs.Finality.{IsBelow, IsFresh, IsEnd, IsFinalAt, IsFinal, IsWhole}
use Rattle.settle_loop.proofs.Registers.{children_registers, same_set, trees_set}
use Rattle.settle_loop.proofs.Below.{below_more, below_all, slots_final}
use Rattle.settle_loop.proofs.Finals.{outs_final, words_final}
use Rattle.settle_loop.proofs.Visiting.{Outcome, set_cases}

-- a settled state holds a word for each data input
held_each : (t : Tree) (s : State) → IsSettled t s → length (held_of s) ≡ input_count (top_of t).face
held_each (node m kids) (state h r u ss) settled = settled.0.held_each ∙ length-map (ports_of is_value m.face) (λ p. p.width)

-- a child's tree has the face that the machine names
face_at : {Y : Type 0} (tree : Y → Tree) (kids : List Kid) (cs : List Y) (i : ℕ) (kid : Kid) (c : Y) → AreLinked (forest_of (map tree cs)) kids → slice_get kids i ≡ Some kid → slice_get cs i ≡ Some c → (top_of (tree c)).face ≡ kid.face
face_at tree kids [] i kid c linked ki ci = absurd (none-some c ci)
face_at tree [] (d ∷ cs) i kid c linked ki ci = absurd linked
face_at tree (k ∷ kids) (d ∷ cs) zero kid c linked ki ci =
    ap (λ y. (top_of (tree y)).face) (sym (same_Some d c ci)) ∙ linked.0 ∙ ap (λ (x : Kid). x.face) (same_Some k kid ki)
face_at tree (k ∷ kids) (d ∷ cs) (suc i) kid c linked ki ci = face_at tree kids cs i kid c linked.3 ki ci

module _ {X : Type 0} (model : X → Model) where
  end_of : (s : Snapshot X) (z : State) → IsSettled (tree_in model s) z → held_of z ≡ s.held → HaveSameRegisters (state_in model s) z → (u : List ℕ) × (states : States) × IsEnd model s u states
  end_of s (state h r u zs) settled held same = (
    u,
    zs,
    record {
      settled = subst (λ x. IsSettled (tree_in model s) (state x s.registers u zs)) held (subst (λ x. IsSettled (tree_in model s) (state h x u zs)) (sym same.0) settled);
      same = same.1;
    },
  )

  -- there is a settled state to go to
  pub end_exists : (s : Snapshot X) → IsWhole model s → IsFresh s → (u : List ℕ) × (states : States) × IsEnd model s u states
  end_exists s whole fresh =
      let z = settled_exists (tree_in model s) (state_in model s) whole.linked
      (fresh.registers_each, children_registers (λ (c : Wrapped X). (model c.child).tree) (λ (c : Wrapped X). (model c.child).state) s.children whole.settled)
      (fresh.held_each ∙ length-map (ports_of is_value s.code.face) (λ p. p.width)) in
      end_of s z.0 z.1 z.2 z.3

  -- the slots are as they will be where those below n are delivered
  pub fresh_final : (s : Snapshot X) (n : ℕ) (u : List ℕ) (states : States) → IsWhole model s → IsFresh s → IsEnd model s u states → IsFinal model n u s → (slot : ℕ) → IsBelow s.code (n + 1) slot → slice_index s.slots slot ≡ slice_index u slot
  fresh_final s n u states whole fresh end final slot below =
      slots_final s.code s.held s.registers s.slots u (all_shown s.children) _ n whole.linked.0.slot_order fresh end.settled.0
      (outs_final model (IsBelow s.code n) u s.code.kids s.children states whole.linked.1 end.settled.1 end.same whole.settled whole.shows final)
      slot below

  held_size : (s : Snapshot X) → IsWhole model s → (i : ℕ) (kid : Kid) (c : Wrapped X) → slice_get s.code.kids i ≡ Some kid → slice_get s.children i ≡ Some c → length (held_of (model c.child).state) ≡ length kid.ins
  held_size s whole i kid c ki ci =
      held_each (model c.child).tree (model c.child).state (whole.settled i c ci)
      ∙ ap input_count (face_at (λ (c : Wrapped X). (model c.child).tree) s.code.kids s.children i kid c whole.linked.1 ki ci) ∙ sym kid.all_joined

  -- where all is delivered, no update is enabled
  pub all_delivered : (s : Snapshot X) (u : List ℕ) (states : States) → IsWhole model s → IsFresh s → IsEnd model s u states → IsFinal model (s.code.chain + 1) u s → IsStale model s → ⊥
  all_delivered s u states whole fresh end final stale =
      let e = stale.enabled in
      let all : (slot : ℕ) → IsBelow s.code (s.code.chain + 1) slot = λ slot. below_all s.code slot whole.linked.0.chained in
      let same : s.slots ≡ u = ext_get_or 0 s.slots u (fresh.sized ∙ sym end.settled.0.sized) (λ slot _. fresh_final s (s.code.chain + 1) u states whole fresh end final slot (below_more s.code (s.code.chain + 1) slot (all slot))) in
      let joined : held_of (model e.was.child).state ≡ words_at u e.kid.ins =
      ext_get_or 0 (held_of (model e.was.child).state) (words_at u e.kid.ins)
      (held_size s whole stale.child e.kid e.was e.kid_at e.was_at ∙ sym (words_size u e.kid.ins))
      (λ p _. final stale.child e.kid e.was e.kid_at e.was_at p (all (slice_index e.kid.ins p))) in
      e.differs (joined ∙ ap (λ ws. words_at ws e.kid.ins) (sym same))

  -- ---- a visit

  module _ (i : ℕ) (s z : Snapshot X) (o : Outcome model i s z) where
    abbrev trees : Snapshot X → List Tree
    trees x = map (λ (c : Wrapped X). (model c.child).tree) x.children

    abbrev states_in : Snapshot X → States
    states_in x = states_of (map (λ (c : Wrapped X). (model c.child).state) x.children)

    moved : (u : List ℕ) (states : States) → trees z ≡ trees s → HaveAllSame (states_in z) states → IsEnd model s u states → IsEnd model z u states
    moved u states same all end = record {
      settled =
          subst (λ m. IsSettled (node m (forest_of (trees z))) (state z.held z.registers u states)) (sym o.code)
          (subst (λ ts. IsSettled (node s.code (forest_of ts)) (state z.held z.registers u states)) (sym same)
          (subst (λ h. IsSettled (tree_in model s) (state h z.registers u states)) (sym o.held)
          (subst (λ r. IsSettled (tree_in model s) (state s.held r u states)) (sym o.registers) end.settled)));
      same = all;
    }

    -- the settled state to go to stays
    pub end_kept : (u : List ℕ) (states : States) → IsEnd model s u states → IsEnd model z u states
    end_kept u states end = elim o.child [
      | inl one ↦
          moved u states
          (ap (map (λ (c : Wrapped X). (model c.child).tree)) one.rest
          ∙ trees_set (λ (c : Wrapped X). (model c.child).tree) (λ (c : Wrapped X). (model c.child).state) s.children i one.was one.now one.was_at one.updates.tree)
          (subst (λ cs. HaveAllSame (states_of (map (λ (c : Wrapped X). (model c.child).state) cs)) states) (sym one.rest)
          (same_set (λ (c : Wrapped X). (model c.child).tree) (λ (c : Wrapped X). (model c.child).state) s.children i one.was one.now states one.was_at one.updates.registers end.same))
          end
      | inr still ↦
          moved u states (ap (map (λ (c : Wrapped X). (model c.child).tree)) still.0)
          (subst (λ cs. HaveAllSame (states_of (map (λ (c : Wrapped X). (model c.child).state) cs)) states) (sym still.0) end.same) end
    ]

    -- the child that was visited holds the words of the slots, and the others have not changed
    delivered : s.phase ≡ Calm → (j : ℕ) (kid : Kid) (d : Wrapped X) → slice_get s.code.kids j ≡ Some kid → slice_get z.children j ≡ Some d →
        ((j ≡ i) × (held_of (model d.child).state ≡ words_at s.slots kid.ins)) ⊎ ((j ≢ i) × (slice_get s.children j ≡ Some d))
    delivered calm j kid d kj dj = elim o.child [
      | inl one ↦ elim (set_cases s.children i j one.now d (ap (λ xs. slice_get xs j) (sym one.rest) ∙ dj)) [
        | inl here ↦
            let same : one.kid ≡ kid = same_Some one.kid kid (sym one.kid_at ∙ ap (slice_get s.code.kids) (sym here.0) ∙ kj) in
            inl (here.0, ap (λ (x : Wrapped X). held_of (model x.child).state) here.1 ∙ one.updates.held ∙ ap (λ (k : Kid). words_at s.slots k.ins) same)
        | inr there ↦ inr there
      ]
      | inr still ↦
          let there : slice_get s.children j ≡ Some d = ap (λ xs. slice_get xs j) (sym still.0) ∙ dj in
          elim (cases_eq j i) [
            | inl here ↦ elim (cases_list (held_of (model d.child).state) (words_at s.slots kid.ins)) [
              | inl equal ↦ inl (here, equal)
              | inr other ↦ absurd (still.1 (record { calm = calm; kid = kid; kid_at = ap (slice_get s.code.kids) (sym here) ∙ kj; was = d; was_at = ap (slice_get s.children) (sym here) ∙ there; differs = other }))
            ]
            | inr away ↦ inr (away, there)
          ]
    ]

    -- the child that was visited holds last values where its slots are below one more
    pub visited_final : s.phase ≡ Calm → IsWhole model s → IsFresh s → (n : ℕ) (u : List ℕ) (states : States) → IsEnd model s u states → IsFinal model n u s → (j : ℕ) (kid : Kid) (d : Wrapped X) → slice_get z.code.kids j ≡ Some kid → slice_get z.children j ≡ Some d →
        ((j ≡ i) × IsFinalAt z.code (n + 1) u kid (model d.child).state) ⊎ ((j ≢ i) × (slice_get s.children j ≡ Some d))
    visited_final calm whole fresh n u states end final j kid d kj dj =
        elim (delivered calm j kid d (ap (λ (m : Machine). slice_get m.kids j) (sym o.code) ∙ kj) dj) [
          | inl here ↦
              let all : IsFinalAt s.code (n + 1) u kid (model d.child).state = λ p below.
              ap (λ ws. slice_index ws p) here.1 ∙ words_final (IsBelow s.code (n + 1)) s.slots u kid.ins (fresh_final s n u states whole fresh end final) p below in
              inl (here.0, subst (λ m. IsFinalAt m (n + 1) u kid (model d.child).state) (sym o.code) all)
          | inr there ↦ inr there
        ]

    -- and no child loses any
    pub final_kept : s.phase ≡ Calm → IsWhole model s → IsFresh s → (n : ℕ) (u : List ℕ) (states : States) → IsEnd model s u states → IsFinal model n u s → IsFinal model n u z
    final_kept calm whole fresh n u states end final j kid d kj dj =
        elim (visited_final calm whole fresh n u states end final j kid d kj dj) as (λ _. IsFinalAt z.code n u kid (model d.child).state) [
          | inl here ↦ λ p below. here.1 p (below_more z.code n (slice_index kid.ins p) below)
          | inr there ↦ subst (λ m. IsFinalAt m n u kid (model d.child).state) (sym o.code) (final j kid d (ap (λ (m : Machine). slice_get m.kids j) (sym o.code) ∙ kj) there.1)
        ]

-- ---- worlds

module _ {X : Type 0} (model : X → Model) (ready struck : X → Type 0) (law : (c : X) → ready c → IsReady (model c)) where
  kids_linked : (kids : List Kid) (cs : List (Wrapped X)) → length cs ≡ length kids → ((i : ℕ) (kid : Kid) (c : Wrapped X) → slice_get kids i ≡ Some kid → slice_get cs i ≡ Some c → IsSeated model ready struck kid c) → ((i : ℕ) (c : Wrapped X) → slice_get cs i ≡ Some c → IsReady (model c.child)) →
      AreLinked (forest_of (map (λ (c : Wrapped X). (model c.child).tree) cs)) kids
  kids_linked [] [] same seated all = tt
  kids_linked [] (c ∷ cs) same seated all = absurd (let clash : ⊥ = omega (arith, same) in clash)
  kids_linked (kid ∷ kids) [] same seated all = absurd (let clash : ⊥ = omega (arith, same) in clash)
  kids_linked (kid ∷ kids) (c ∷ cs) same seated all =
      let seat = seated 0 kid c refl refl in
      (seat.face, seat.summary, (all 0 c refl).model.linked, kids_linked kids cs (let e : length cs ≡ length kids = omega (arith, same) in e) (λ i k d ki di. seated (suc i) k d ki di) (λ i d di. all (suc i) d di))

  -- a calm world is whole
  pub world_whole : (w : World X) → IsWorld model ready struck w → IsChecked (moment_of w).code → (moment_of w).phase ≡ Calm → IsWhole model (moment_of w)
  world_whole w was checked calm =
      let still : w.striking ≡ false = phase_calm w.striking w.before.items (if w.sampled then Some (words w.sampling.next.items) else None) calm in
      let seat : (i : ℕ) (c : Wrapped X) → slice_get w.children.items i ≡ Some c → (kid : Kid) × IsSeated model ready struck kid c =
      λ i c ci. (
      let one = get_or_first (moment_of w).code.kids i (let e : i < length (moment_of w).code.kids = omega (arith, slice_get_within w.children.items i c ci, was.core.children_each) in e) in
      (one.0, was.core.seated i one.0 c one.1 ci)) in
      let all : (i : ℕ) (c : Wrapped X) → slice_get w.children.items i ≡ Some c → IsReady (model c.child) =
      λ i c ci. let one = seat i c ci in law c.child (stands_ready model ready struck one.0 c one.1 ((was.calm still).1 i c ci)).ready_now in
      record {
        linked = (checked, kids_linked (moment_of w).code.kids w.children.items was.core.children_each was.core.seated all);
        settled = λ i c ci. (all i c ci).model.settled;
        shows = λ i c ci. let one = seat i c ci in one.1.shown_is ∙ (all i c ci).shown;
      }
