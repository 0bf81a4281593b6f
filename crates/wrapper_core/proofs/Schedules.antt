-- What stays and what changes in a strike, whatever the order of its events.
use Rattle.std.proofs.Common.{◌≡◌, ℕ, zero, suc, ◌⊎◌, inl, inr, Bool, true, false, List, [], ◌∷◌, length, map, set, refl, sym, ◌∙◌, ap, subst, arith}
use Rattle.std.specs.Prelude.{slice_get, Option, Some, None}
use Rattle.std.proofs.lemmas.List.{length-set}
use Rattle.std.proofs.lemmas.Option.{none-some, same_Some}
use Rattle.code_isa.specs.declared.machine.Kid.{Kid}
use Rattle.code_isa.specs.declared.machine.Machine.{Machine}
use Rattle.code_isa.specs.Tree.{Tree, node, Forest, no_tree, tree_and, forest_of, State, state, States, no_state, state_and, held_of}
use Rattle.code_isa.specs.Settled.{HaveSameRegisters, HaveAllSame}
use Rattle.code_isa.specs.Traces.{sampled, levels_at, TakesEdges, AllTakeEdges}
use Rattle.model_stage.specs.Model.{Model, Strikes}
use Rattle.wrapper_core.specs.declared.event.Event.{Event}
use Rattle.wrapper_core.specs.declared.event.Event.TheVariants.{Own, Update, StrikeOwn, Strike, Commit}
use Rattle.wrapper_core.specs.declared.wrapped.Wrapped.{Wrapped}
use Rattle.wrapper_core.specs.Snapshot.{Calm, Striking, Snapshot, states_of, with_levels}
use Rattle.wrapper_core.specs.Events.{IsEnabled, Does, Schedule, IsPublished, ArePublished}
use Rattle.wrapper_core.specs.Striking.{IsStriking, ShowsSame, TakesAllEdges}

-- what stands in a list one item of which is set
pub got_set : {X : Type 0} (xs : List X) (i j : ℕ) (y d : X) → slice_get (set xs i y) j ≡ Some d → ((j ≡ i) × (d ≡ y)) ⊎ (slice_get xs j ≡ Some d)
got_set [] i j y d at = absurd (none-some d at)
got_set (x ∷ xs) zero zero y d at = inl (refl, sym (same_Some y d at))
got_set (x ∷ xs) zero (suc j) y d at = inr at
got_set (x ∷ xs) (suc i) zero y d at = inr at
got_set (x ∷ xs) (suc i) (suc j) y d at = elim (got_set xs i j y d at) [ inl here ↦ inl (ap suc here.0, here.1) | inr there ↦ inr there ]

-- registers that take edges and are then kept have taken them
mutual
  pub takes_kept : (t : Tree) (old new : List Bool) (s z y : State) → TakesEdges t old new s z → HaveSameRegisters z y → TakesEdges t old new s y
  takes_kept (node m kids) old new (state h r u ss) (state i q v zs) (state j p w ys) takes same = (sym same.0 ∙ takes.0, all_kept kids m.kids old new ss zs ys takes.1 same.1)

  all_kept : (trees : Forest) (kids : List Kid) (old new : List Bool) (ss zs ys : States) → AllTakeEdges trees kids old new ss zs → HaveAllSame zs ys → AllTakeEdges trees kids old new ss ys
  all_kept no_tree [] old new no_state no_state no_state takes same = tt
  all_kept no_tree [] old new no_state no_state (state_and y ys) takes same = absurd same
  all_kept no_tree [] old new no_state (state_and z zs) ys takes same = absurd takes
  all_kept no_tree [] old new (state_and s ss) zs ys takes same = absurd takes
  all_kept no_tree (kid ∷ kids) old new ss zs ys takes same = absurd takes
  all_kept (tree_and t trees) [] old new ss zs ys takes same = absurd takes
  all_kept (tree_and t trees) (kid ∷ kids) old new no_state zs ys takes same = absurd takes
  all_kept (tree_and t trees) (kid ∷ kids) old new (state_and s ss) no_state ys takes same = absurd takes
  all_kept (tree_and t trees) (kid ∷ kids) old new (state_and s ss) (state_and z zs) no_state takes same = absurd same
  all_kept (tree_and t trees) (kid ∷ kids) old new (state_and s ss) (state_and z zs) (state_and y ys) takes same =
      (takes_kept t (levels_at old kid.clocks) (levels_at new kid.clocks) s z y takes.0 same.0, all_kept trees kids old new ss zs ys takes.1 same.1)

-- a phase is calm or not, and sampled or not
pub calm_strikes : (before : List Bool) (s : Option (List ℕ)) → Calm ≡ Striking before s → ⊥
calm_strikes before s e = let clash : ⊥ = cc in clash

pub unsampled_sampled : (before after : List Bool) (ws : List ℕ) → Striking before None ≡ Striking after (Some ws) → ⊥
unsampled_sampled before after ws e = let clash : ⊥ = cc in clash

pub sampled_parts : (before after : List Bool) (ws vs : List ℕ) → Striking before (Some ws) ≡ Striking after (Some vs) → ws ≡ vs
sampled_parts before after ws vs e = cc

before_parts : (before after : List Bool) (s z : Option (List ℕ)) → Striking before s ≡ Striking after z → before ≡ after
before_parts before after s z e = cc

true_false : true ≡ false → ⊥
true_false e = let clash : ⊥ = cc in clash

module _ {X : Type 0} (model : X → Model) where
  -- a child that has been struck since
  pub record StruckFrom (given : List Bool) (c d : Wrapped X) : Type 0 where
    pub strikes : Strikes given (model c.child) (model d.child)
    pub wrapper : d.wrapper ≡ c.wrapper
    pub struck : d.struck ≡ true

  pub published_at : (cs ds : List (Wrapped X)) (i : ℕ) (d : Wrapped X) → ArePublished model cs ds → slice_get ds i ≡ Some d → (c : Wrapped X) × (slice_get cs i ≡ Some c) × IsPublished model c d
  published_at [] [] i d all at = absurd (none-some d at)
  published_at [] (e ∷ ds) i d all at = absurd all
  published_at (c ∷ cs) [] i d all at = absurd all
  published_at (c ∷ cs) (e ∷ ds) zero d all at = (c, refl, subst (IsPublished model c) (same_Some e d at) all.0)
  published_at (c ∷ cs) (e ∷ ds) (suc i) d all at = published_at cs ds i d all.1 at

  pub published_each : (cs ds : List (Wrapped X)) → ArePublished model cs ds → length ds ≡ length cs
  published_each [] [] all = refl
  published_each [] (e ∷ ds) all = absurd all
  published_each (c ∷ cs) [] all = absurd all
  published_each (c ∷ cs) (e ∷ ds) all = ap suc (published_each cs ds all.1)

  module _ (levels : List Bool) (start : Snapshot X) where
    abbrev pub sampled_words : List ℕ
    sampled_words = sampled start.levels levels start.slots start.code.regs start.registers

    -- while the strike that began at the start is under way
    pub record StruckSince (s : Snapshot X) : Type 0 where
      pub code : s.code ≡ start.code
      pub slots : s.slots ≡ start.slots
      pub held : s.held ≡ start.held
      pub registers : s.registers ≡ start.registers
      pub levels_are : s.levels ≡ levels
      pub phase : (s.phase ≡ Striking start.levels None) ⊎ (s.phase ≡ Striking start.levels (Some sampled_words))
      pub each : length s.children ≡ length start.children
      pub children : (i : ℕ) (kid : Kid) (c d : Wrapped X) → slice_get start.code.kids i ≡ Some kid → slice_get start.children i ≡ Some c → slice_get s.children i ≡ Some d →
          (d ≡ c) ⊎ StruckFrom (levels_at levels kid.clocks) c d

    -- once it is committed
    pub record TakenSince (s : Snapshot X) : Type 0 where
      pub code : s.code ≡ start.code
      pub phase : s.phase ≡ Calm
      pub registers : s.registers ≡ sampled_words
      pub each : length s.children ≡ length start.children
      pub children : (i : ℕ) (kid : Kid) (c d : Wrapped X) → slice_get start.code.kids i ≡ Some kid → slice_get start.children i ≡ Some c → slice_get s.children i ≡ Some d →
          TakesEdges (model c.child).tree (model c.child).levels (levels_at levels kid.clocks) (model c.child).state (model d.child).state

    -- no two children of the start stand in one place
    found_same : (xs : List (Wrapped X)) (i : ℕ) (c d : Wrapped X) → slice_get xs i ≡ Some c → slice_get xs i ≡ Some d → c ≡ d
    found_same xs i c d ci di = same_Some c d (sym ci ∙ di)

    struck_step : ((i : ℕ) (c : Wrapped X) → slice_get start.children i ≡ Some c → c.struck ≡ false) → (e : Event) (s z : Snapshot X) → StruckSince s → IsEnabled model s e → Does model e s z → StruckSince z ⊎ TakenSince z
    struck_step unstruck Own s z was enabled does =
        absurd (elim was.phase [ inl before ↦ calm_strikes start.levels None (sym enabled ∙ before) | inr after ↦ calm_strikes start.levels (Some sampled_words) (sym enabled ∙ after) ])
    struck_step unstruck (Update i) s z was enabled does =
        absurd (elim was.phase [ inl before ↦ calm_strikes start.levels None (sym enabled.calm ∙ before) | inr after ↦ calm_strikes start.levels (Some sampled_words) (sym enabled.calm ∙ after) ])
    struck_step unstruck StrikeOwn s z was enabled does =
        elim was.phase [
          | inl before ↦
              let old : does.before ≡ start.levels = before_parts does.before start.levels None None (sym does.striking ∙ before) in
              let words : sampled does.before s.levels s.slots s.code.regs s.registers ≡ sampled_words =
              ap (λ b. sampled b s.levels s.slots s.code.regs s.registers) old ∙ ap (λ l. sampled start.levels l s.slots s.code.regs s.registers) was.levels_are
              ∙ ap (λ u. sampled start.levels levels u s.code.regs s.registers) was.slots ∙ ap (λ (m : Machine). sampled start.levels levels start.slots m.regs s.registers) was.code
              ∙ ap (λ r. sampled start.levels levels start.slots start.code.regs r) was.registers in
              inl (subst StruckSince (sym does.rest) (record {
                code = was.code;
                slots = was.slots;
                held = was.held;
                registers = was.registers;
                levels_are = was.levels_are;
                phase = inr (ap (λ b. Striking b (Some (sampled does.before s.levels s.slots s.code.regs s.registers))) old ∙ ap (λ ws. Striking start.levels (Some ws)) words);
                each = was.each;
                children = was.children;
              }))
          | inr after ↦ absurd (unsampled_sampled does.before start.levels sampled_words (sym does.striking ∙ after))
        ]
    struck_step unstruck (Strike i) s z was enabled does =
        inl (subst StruckSince (sym does.rest) (record {
          code = was.code;
          slots = was.slots;
          held = was.held;
          registers = was.registers;
          levels_are = was.levels_are;
          phase = was.phase;
          each = ap length does.at.rest ∙ length-set s.children i does.at.now ∙ was.each;
          children = λ j kid c d kj cj dj. elim (got_set s.children i j does.at.now d (ap (λ xs. slice_get xs j) (sym does.at.rest) ∙ dj)) [
            | inl here ↦
                let there : slice_get s.children j ≡ Some does.at.was = ap (slice_get s.children) here.0 ∙ does.at.was_at in
                let free : does.at.was.struck ≡ false = ap (λ (w : Wrapped X). w.struck) (found_same s.children i does.at.was enabled.was does.at.was_at enabled.was_at) ∙ enabled.unstruck in
                elim (was.children j kid c does.at.was kj cj there) [
                  | inl same ↦
                      let kid_same : does.at.kid ≡ kid = same_Some does.at.kid kid (sym does.at.kid_at ∙ ap (λ (m : Machine). slice_get m.kids i) was.code ∙ ap (slice_get start.code.kids) (sym here.0) ∙ kj) in
                      let strikes : Strikes (levels_at levels kid.clocks) (model c.child) (model does.at.now.child) =
                      subst (λ (w : Wrapped X). Strikes (levels_at levels kid.clocks) (model w.child) (model does.at.now.child)) same
                      (subst (λ (k : Kid). Strikes (levels_at levels k.clocks) (model does.at.was.child) (model does.at.now.child)) kid_same
                      (subst (λ l. Strikes (levels_at l does.at.kid.clocks) (model does.at.was.child) (model does.at.now.child)) was.levels_are does.at.strikes)) in
                      inr (subst (StruckFrom (levels_at levels kid.clocks) c) (sym here.1) (record { strikes = strikes; wrapper = does.at.wrapper ∙ ap (λ (w : Wrapped X). w.wrapper) same; struck = does.at.struck }))
                  | inr struck ↦ absurd (true_false (sym struck.struck ∙ free))
                ]
            | inr there ↦ was.children j kid c d kj cj there
          ];
        }))
    struck_step unstruck Commit s z was enabled does =
        elim was.phase [
          | inl before ↦ absurd (unsampled_sampled start.levels does.before does.sampled (sym before ∙ does.striking))
          | inr after ↦
              inr (subst TakenSince (sym does.rest) (record {
                code = was.code;
                phase = refl;
                registers = sampled_parts does.before start.levels does.sampled sampled_words (sym does.striking ∙ after);
                each = published_each s.children z.children does.published ∙ was.each;
                children = λ j kid c d kj cj dj.
                    let one = published_at s.children z.children j d does.published dj in
                    let same_state : (model d.child).state ≡ (model one.0.child).state = ap (λ (m : Model). m.state) one.2.publishes in
                    elim (was.children j kid c one.0 kj cj one.1) [
                      | inl same ↦ absurd (true_false (sym (enabled.struck j one.0 one.1) ∙ ap (λ (w : Wrapped X). w.struck) same ∙ unstruck j c cj))
                      | inr struck ↦ subst (TakesEdges (model c.child).tree (model c.child).levels (levels_at levels kid.clocks) (model c.child).state) (sym same_state) struck.strikes.registers
                    ];
              }))
        ]

    taken_step : (e : Event) (s z : Snapshot X) → TakenSince s → IsEnabled model s e → Does model e s z → TakenSince z
    taken_step Own s z was enabled does =
        subst TakenSince (sym does.rest) (record { code = was.code; phase = was.phase; registers = was.registers; each = was.each; children = was.children })
    taken_step (Update i) s z was enabled does =
        subst TakenSince (sym does.rest) (record {
          code = was.code;
          phase = was.phase;
          registers = was.registers;
          each = ap length does.at.rest ∙ length-set s.children i does.at.now ∙ was.each;
          children = λ j kid c d kj cj dj. elim (got_set s.children i j does.at.now d (ap (λ xs. slice_get xs j) (sym does.at.rest) ∙ dj)) [
            | inl here ↦
                let before = was.children j kid c does.at.was kj cj (ap (slice_get s.children) here.0 ∙ does.at.was_at) in
                subst (λ (w : Wrapped X). TakesEdges (model c.child).tree (model c.child).levels (levels_at levels kid.clocks) (model c.child).state (model w.child).state) (sym here.1)
                (takes_kept (model c.child).tree (model c.child).levels (levels_at levels kid.clocks) (model c.child).state (model does.at.was.child).state (model does.at.now.child).state before does.at.updates.registers)
            | inr there ↦ was.children j kid c d kj cj there
          ];
        })
    taken_step StrikeOwn s z was enabled does = absurd (calm_strikes enabled.before None (sym was.phase ∙ enabled.striking))
    taken_step (Strike i) s z was enabled does = absurd (calm_strikes enabled.before enabled.sampled (sym was.phase ∙ enabled.striking))
    taken_step Commit s z was enabled does = absurd (calm_strikes enabled.before (Some enabled.sampled) (sym was.phase ∙ enabled.striking))

    taken_all : (events : List Event) (s z : Snapshot X) → TakenSince s → Schedule model events s z → TakenSince z
    taken_all [] s z was goes = subst TakenSince (sym goes) was
    taken_all (e ∷ events) s z was goes = taken_all events goes.next z (taken_step e s goes.next was goes.enabled goes.does) goes.goes

    pub struck_all : ((i : ℕ) (c : Wrapped X) → slice_get start.children i ≡ Some c → c.struck ≡ false) → (events : List Event) (s z : Snapshot X) → StruckSince s → Schedule model events s z → StruckSince z ⊎ TakenSince z
    struck_all unstruck [] s z was goes = inl (subst StruckSince (sym goes) was)
    struck_all unstruck (e ∷ events) s z was goes =
        elim (struck_step unstruck e s goes.next was goes.enabled goes.does) [
          | inl still ↦ struck_all unstruck events goes.next z still goes.goes
          | inr taken ↦ inr (taken_all events goes.next z taken goes.goes)
        ]

    pub struck_start : StruckSince (with_levels start levels)
    struck_start = record {
      code = refl;
      slots = refl;
      held = refl;
      registers = refl;
      levels_are = refl;
      phase = inl refl;
      each = refl;
      children = λ i kid c d ki ci di. inl (found_same start.children i d c di ci);
    }

    -- a list has an item wherever a list that is as long has one
    maps_same : {Y : Type 0} (f : Wrapped X → Y) (kids : List Kid) (cs ds : List (Wrapped X)) → length cs ≡ length kids → length ds ≡ length cs →
        ((i : ℕ) (kid : Kid) (c d : Wrapped X) → slice_get kids i ≡ Some kid → slice_get cs i ≡ Some c → slice_get ds i ≡ Some d → f d ≡ f c) → map f ds ≡ map f cs
    maps_same f [] [] [] a b each = refl
    maps_same f [] [] (d ∷ ds) a b each = absurd (let clash : ⊥ = omega (arith, b) in clash)
    maps_same f [] (c ∷ cs) ds a b each = absurd (let clash : ⊥ = omega (arith, a) in clash)
    maps_same f (kid ∷ kids) [] ds a b each = absurd (let clash : ⊥ = omega (arith, a) in clash)
    maps_same f (kid ∷ kids) (c ∷ cs) [] a b each = absurd (let clash : ⊥ = omega (arith, b) in clash)
    maps_same f (kid ∷ kids) (c ∷ cs) (d ∷ ds) a b each =
        ap (λ y. y ∷ map f ds) (each 0 kid c d refl refl refl)
        ∙ ap (λ ys. f c ∷ ys) (maps_same f kids cs ds (let e : length cs ≡ length kids = omega (arith, a) in e) (let e : length ds ≡ length cs = omega (arith, b) in e) (λ i k x y ki xi yi. each (suc i) k x y ki xi yi))

    all_taken : (old new : List Bool) (kids : List Kid) (cs ds : List (Wrapped X)) → length cs ≡ length kids → length ds ≡ length cs →
        ((i : ℕ) (kid : Kid) (c d : Wrapped X) → slice_get kids i ≡ Some kid → slice_get cs i ≡ Some c → slice_get ds i ≡ Some d →
        TakesEdges (model c.child).tree (levels_at old kid.clocks) (levels_at new kid.clocks) (model c.child).state (model d.child).state) →
        AllTakeEdges (forest_of (map (λ (c : Wrapped X). (model c.child).tree) cs)) kids old new
        (states_of (map (λ (c : Wrapped X). (model c.child).state) cs)) (states_of (map (λ (c : Wrapped X). (model c.child).state) ds))
    all_taken old new [] [] [] a b each = tt
    all_taken old new [] [] (d ∷ ds) a b each = absurd (let clash : ⊥ = omega (arith, b) in clash)
    all_taken old new [] (c ∷ cs) ds a b each = absurd (let clash : ⊥ = omega (arith, a) in clash)
    all_taken old new (kid ∷ kids) [] ds a b each = absurd (let clash : ⊥ = omega (arith, a) in clash)
    all_taken old new (kid ∷ kids) (c ∷ cs) [] a b each = absurd (let clash : ⊥ = omega (arith, b) in clash)
    all_taken old new (kid ∷ kids) (c ∷ cs) (d ∷ ds) a b each =
        (each 0 kid c d refl refl refl, all_taken old new kids cs ds (let e : length cs ≡ length kids = omega (arith, a) in e) (let e : length ds ≡ length cs = omega (arith, b) in e) (λ i k x y ki xi yi. each (suc i) k x y ki xi yi))

    -- while the strike is under way, nothing that is shown has changed
    pub since_shows : length start.children ≡ length start.code.kids → (z : Snapshot X) → StruckSince z → ShowsSame model start z
    since_shows size z was = record {
      code = was.code;
      slots = was.slots;
      held = was.held;
      registers = was.registers;
      children_held = maps_same (λ (c : Wrapped X). held_of (model c.child).state) start.code.kids start.children z.children size was.each (λ i kid c d ki ci di. elim (was.children i kid c d ki ci di) [
        | inl same ↦ ap (λ (w : Wrapped X). held_of (model w.child).state) same
        | inr struck ↦ struck.strikes.held
      ]);
      wrappers = maps_same (λ (c : Wrapped X). c.wrapper) start.code.kids start.children z.children size was.each (λ i kid c d ki ci di. elim (was.children i kid c d ki ci di) [
        | inl same ↦ ap (λ (w : Wrapped X). w.wrapper) same
        | inr struck ↦ struck.wrapper
      ]);
    }

    -- once it is committed, all registers have taken their edges
    pub since_takes : length start.children ≡ length start.code.kids → ((i : ℕ) (kid : Kid) (c : Wrapped X) → slice_get start.code.kids i ≡ Some kid → slice_get start.children i ≡ Some c → (model c.child).levels ≡ levels_at start.levels kid.clocks) → (z : Snapshot X) → TakenSince z → TakesAllEdges model levels start z
    since_takes size joined z was = (
      was.registers,
      all_taken start.levels levels start.code.kids start.children z.children size was.each (λ i kid c d ki ci di.
          subst (λ l. TakesEdges (model c.child).tree l (levels_at levels kid.clocks) (model c.child).state (model d.child).state) (joined i kid c ki ci) (was.children i kid c d ki ci di)),
    )

    -- a moment is not both
    pub since_calm : (z : Snapshot X) → z.phase ≡ Calm → StruckSince z ⊎ TakenSince z → TakenSince z
    since_calm z calm either = elim either [
      | inl was ↦ absurd (elim was.phase [ inl before ↦ calm_strikes start.levels None (sym calm ∙ before) | inr after ↦ calm_strikes start.levels (Some sampled_words) (sym calm ∙ after) ])
      | inr was ↦ was
    ]

    pub since_striking : (z : Snapshot X) → IsStriking z → StruckSince z ⊎ TakenSince z → StruckSince z
    since_striking z striking either = elim either [
      | inl was ↦ was
      | inr was ↦ absurd (calm_strikes striking.before striking.sampled (sym was.phase ∙ striking.striking))
    ]
