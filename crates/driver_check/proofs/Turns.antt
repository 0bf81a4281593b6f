-- Drivers taken in turn: each is judged, and marked where nothing is refused.
use Rattle.std.proofs.Common.{◌≡◌, ℕ, ◌+◌, ◌<◌, ◌≤◌, List, [], ◌∷◌, ◌++◌, length, map, drop, take, get_or, Bool, true, false, inl, inr, refl, sym, ◌∙◌, ap, subst, arith}
use Rattle.std.specs.Prelude.{◌==◌, ◌&&◌, ◌||◌, nat_lt, is_some, Option, Some, slice_get, if◌then◌else◌}
use Rattle.std.specs.List.{flat_map}
use Rattle.std.proofs.lemmas.Bool.Decides.{nat_tests}
use Rattle.std.proofs.lemmas.List.{get_or-map, length-map, length-take-le, take_more, take_all}
use Rattle.std.proofs.lemmas.Option.{slice_get_cases}
use Rattle.sv_base.specs.declared.refusal.Place.{Place}
use Rattle.sv_base.specs.declared.refusal.Refusal.{Refusal}
use Rattle.sv_base.specs.declared.fault.Fault.{Fault}
use Rattle.net_ir.specs.declared.design.Var.{Var}
use Rattle.net_ir.specs.declared.design.Spec.{Spec}
use Rattle.net_ir.specs.Value.{widths_of}
use Rattle.driver_check.specs.declared.runs.Run.{Run}
use Rattle.driver_check.specs.declared.runs.Taken.{Taken}
use Rattle.driver_check.specs.declared.sources.Source as code
use Rattle.driver_check.specs.Refused.{IsFirst}
use Rattle.driver_check.specs.Driven.{Source, drives, first_driver, is_driven, is_input, refused_source, refused_sources, sources_of, IsDriverMap}
use Rattle.driver_check.specs.Taking.{taken_source}
use Rattle.driver_check.specs.code.Runs.{in_run, has_bit, any_has}
use Rattle.driver_check.specs.code.Marks.{row_of, entry, IsInside, AreInside, is_marked, flaw_at, flaw_of, flaws_of, AreMarked}
use Rattle.driver_check.proofs.Firsts.{first_here, split_items}
use Rattle.driver_check.proofs.Bits.{source_taken}
use Rattle.driver_check.proofs.Marking.{marked_some}
use Rattle.driver_check.proofs.Driving.{HasDrivers, width_at, source_inside, some_driver, driver_more, no_conflict, row_width, source_flaws}

-- ---- bits that may be taken have no driver yet

run_bounds : (run : Run) (k : ℕ) → in_run run k ≡ true → (run.low ≤ k) × (k < run.end)
run_bounds run k is = (grind (arith, nat_tests), grind (arith, nat_tests))

and_both : (a b : Bool) → (a && b) ≡ true → (a ≡ true) × (b ≡ true)
and_both true b is = (refl, is)
and_both false b is = absurd (let clash : false ≡ true = is in cc)

eq_is : (x y : ℕ) → (x == y) ≡ true → x ≡ y
eq_is x y is = grind (arith, nat_tests)

split_none : {X : Type 0} (xs ys : List X) → (xs ++ ys) ≡ [] → (xs ≡ []) × (ys ≡ [])
split_none [] ys none = (refl, none)
split_none (x ∷ xs) ys none = absurd (let clash : x ∷ (xs ++ ys) ≡ [] = none in cc)

not_both : (b c : Bool) → (b ≡ true → c ≡ true) → c ≡ false → b ≡ false
not_both true c so not_c = absurd (let clash : true ≡ false = sym (so refl) ∙ not_c in cc)
not_both false c so not_c = refl

module _ (vars : List Var) (before : List Source) (rows : List (List (Option ℕ))) (has : HasDrivers vars before rows) (place : Place) where
  found_free : (t : Taken) (k : ℕ) (v : Var) → slice_get vars t.var ≡ Some v → IsInside (widths_of vars) t → flaw_of vars rows place t ≡ [] → in_run t.run k ≡ true →
      is_some (entry rows t.var k) ≡ false
  found_free t k v is inside none in_it =
      let bounds = run_bounds t.run k in_it in
      let low : t.run.low ≤ k = bounds.0 in
      let high : k < t.run.end = bounds.1 in
      let some_bit : nat_lt t.run.low t.run.end ≡ true = grind (arith, nat_tests) in
      let width = width_at vars t.var v is in
      let row = row_width vars before rows has t.var v is in
      let fits : t.run.end ≤ length (row_of rows t.var) = omega (arith, width, row, inside.1) in
      let at : flaw_at rows place t (Some v) ≡ [] = sym (ap (flaw_at rows place t) is) ∙ none in
      let unmarked = no_conflict (is_input v.role) (nat_lt t.run.low t.run.end) (is_marked (row_of rows t.var) t.run) place v.name at some_bit in
      not_both (is_some (entry rows t.var k)) (is_marked (row_of rows t.var) t.run) (marked_some (row_of rows t.var) t.run k low high fits) unmarked

  one_free : (t : Taken) (x k : ℕ) → IsInside (widths_of vars) t → flaw_of vars rows place t ≡ [] → has_bit t x k ≡ true → is_some (entry rows x k) ≡ false
  one_free t x k inside none has_it =
      let both = and_both (t.var == x) (in_run t.run k) has_it in
      let same : t.var ≡ x = eq_is t.var x both.0 in
      let all = length-map vars (λ (u : Var). u.width) in
      subst (λ y. is_some (entry rows y k) ≡ false) same
      (elim (slice_get_cases vars t.var).1 [
        | inl found ↦ found_free t k found.0 found.2 inside none both.1
        | inr past ↦ absurd (omega (arith, all, past.0, inside.0))
      ])

  all_free : (taken : List Taken) (x k : ℕ) → AreInside (widths_of vars) taken → flat_map (flaw_of vars rows place) taken ≡ [] → any_has taken x k ≡ true → is_some (entry rows x k) ≡ false
  all_free [] x k inside none has_it = absurd (let clash : false ≡ true = has_it in cc)
  all_free (t ∷ taken) x k inside none has_it =
      let parts = split_none (flaw_of vars rows place t) (flat_map (flaw_of vars rows place) taken) none in
      by_test (has_bit t x k) refl (one_free t x k inside.0 parts.0) (all_free taken x k inside.1 parts.1) where
        by_test : (b : Bool) → has_bit t x k ≡ b → (has_bit t x k ≡ true → is_some (entry rows x k) ≡ false) → (any_has taken x k ≡ true → is_some (entry rows x k) ≡ false) → is_some (entry rows x k) ≡ false
        by_test true is first rest = first is
        by_test false is first rest = rest (sym (ap (λ b. b || any_has taken x k) is) ∙ has_it)

-- ---- one driver more

module _ (vars : List Var) (before : List Source) (rows : List (List (Option ℕ))) (has : HasDrivers vars before rows) (source : Source) where
  source_free : flaws_of vars rows (taken_source vars source) ≡ [] → (x k : ℕ) → drives vars source x k ≡ true → is_driven vars before x k ≡ false
  source_free none x k it_drives =
      sym (ap is_some (has.tells x k) ∙ some_driver vars x k 0 before)
      ∙ all_free vars before rows has source.place (taken_source vars source).taken x k (source_inside vars source) none (source_taken vars x k source ∙ it_drives)

  pub one_more : (new : List (List (Option ℕ))) → flaws_of vars rows (taken_source vars source) ≡ [] → AreMarked (taken_source vars source).taken (length before) rows new →
      HasDrivers vars (before ++ source ∷ []) new
  one_more new none marked = record {
    shape = marked.shape ∙ has.shape;
    tells = λ x k.
        let same : 0 + length before ≡ length before = omega arith in
        marked.bits x k
        ∙ ap (λ b. if b then Some (length before) else entry rows x k) (source_taken vars x k source)
        ∙ ap (λ e. if drives vars source x k then Some (length before) else e) (has.tells x k)
        ∙ sym (ap (λ n. if drives vars source x k then Some n else first_driver vars 0 before x k) same)
        ∙ sym (driver_more vars x k source 0 before (source_free none x k));
  }

-- ---- the item at a place

pub record IsAt (vars : List Var) (all : List Source) (i : ℕ) (item : code.Source) : Type 0 where
  pub source : Source
  pub is : item ≡ taken_source vars source
  pub ahead : drop i all ≡ source ∷ drop (i + 1) all
  pub behind : take (i + 1) all ≡ take i all ++ source ∷ []
  pub count : length (take i all) ≡ i

pub item_at : (vars : List Var) (all : List Source) (i count : ℕ) (item : code.Source) (sources items : List code.Source) → sources ≡ map (taken_source vars) all → items ≡ sources → count ≡ length sources →
    i < count → item ≡ get_or items i item → IsAt vars all i item
item_at vars all i count item sources items made same counted within got =
    let sizes = ap length made ∙ length-map all (taken_source vars) in
    elim (slice_get_cases all i).1 [
      | inl found ↦
          let low : i < length all = found.1 in
          record {
            source = found.0;
            is = got ∙ ap (λ xs. get_or xs i item) (same ∙ made) ∙ get_or-map (taken_source vars) all i found.0 item low ∙ ap (taken_source vars) found.3;
            ahead = split_items all i found.0 low (sym found.3);
            behind = take_more all i found.0 low ∙ ap (λ s. take i all ++ s ∷ []) found.3;
            count = length-take-le i all (omega arith);
          }
      | inr past ↦ absurd (omega (arith, sizes, counted, past.0))
    ]

-- ---- a turn

module _ (vars : List Var) (all : List Source) (i : ℕ) (item : code.Source) (at : IsAt vars all i item) (rows : List (List (Option ℕ))) (has : HasDrivers vars (take i all) rows)
    (total : List Refusal) (refused : total ≡ refused_sources vars (take i all) (drop i all)) where
  pub item_inside : AreInside (widths_of vars) item.taken
  item_inside = subst (λ (s : code.Source). AreInside (widths_of vars) s.taken) (sym at.is) (source_inside vars at.source)

  pub item_in_rows : AreInside (map length rows) item.taken
  item_in_rows = subst (λ ws. AreInside ws item.taken) (sym has.shape) item_inside

  flaws : refused_source vars (take i all) at.source ≡ flaws_of vars rows item
  flaws = source_flaws vars (take i all) rows has at.source ∙ sym (ap (flaws_of vars rows) at.is)

  whole : total ≡ (flaws_of vars rows item ++ refused_sources vars (take i all ++ at.source ∷ []) (drop (i + 1) all))
  whole = refused ∙ ap (refused_sources vars (take i all)) at.ahead ∙ ap (λ r. r ++ refused_sources vars (take i all ++ at.source ∷ []) (drop (i + 1) all)) flaws

  -- the first that is refused of this driver is the first of all
  pub first_turn : (vs : List Var) (rs : List (List (Option ℕ))) (fault : Fault) → vs ≡ vars → rs ≡ rows → IsFirst (flaws_of vs rs item) fault → IsFirst total fault
  first_turn vs rs fault same_vars same_rows first =
      let same : flaws_of vs rs item ≡ flaws_of vars rows item = ap (λ us. flaws_of us rs item) same_vars ∙ ap (λ qs. flaws_of vars qs item) same_rows in
      subst (λ r. IsFirst r fault) (sym whole)
      (first_here (flaws_of vars rows item) (refused_sources vars (take i all ++ at.source ∷ []) (drop (i + 1) all)) fault (subst (λ r. IsFirst r fault) same first))

  -- nothing is refused of it
  pub refused_more : flaws_of vars rows item ≡ [] → total ≡ refused_sources vars (take (i + 1) all) (drop (i + 1) all)
  refused_more none =
      whole
      ∙ ap (λ r. r ++ refused_sources vars (take i all ++ at.source ∷ []) (drop (i + 1) all)) none
      ∙ sym (ap (λ before. refused_sources vars before (drop (i + 1) all)) at.behind)

  pub driven_more : (new : List (List (Option ℕ))) → flaws_of vars rows item ≡ [] → AreMarked item.taken i rows new → HasDrivers vars (take (i + 1) all) new
  driven_more new none marked =
      subst (λ before. HasDrivers vars before new) (sym at.behind)
      (one_more vars (take i all) rows has at.source new
      (sym (ap (flaws_of vars rows) at.is) ∙ none)
      (subst (λ n. AreMarked (taken_source vars at.source).taken n rows new) (sym at.count) (subst (λ (s : code.Source). AreMarked s.taken i rows new) at.is marked)))

-- all drivers were taken
pub all_told : (spec : Spec) (i : ℕ) (rows : List (List (Option ℕ))) → length (sources_of spec) ≤ i → HasDrivers spec.vars (take i (sources_of spec)) rows → IsDriverMap spec rows
all_told spec i rows past told =
    let has : HasDrivers spec.vars (sources_of spec) rows = subst (λ before. HasDrivers spec.vars before rows) (take_all i (sources_of spec) past) told in
    record {
      each = sym (length-map rows length) ∙ ap length has.shape ∙ length-map spec.vars (λ (v : Var). v.width);
      bits = λ x v is. row_width spec.vars (sources_of spec) rows has x v is;
      tells = λ x v k is within. has.tells x k;
    }
