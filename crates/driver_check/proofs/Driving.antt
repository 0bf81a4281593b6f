-- The first driver of a bit, and what is refused of a driver that comes after others.
use Rattle.std.proofs.Common.{◌≡◌, ℕ, zero, suc, ◌+◌, ◌<◌, ◌≤◌, List, [], ◌∷◌, ◌++◌, length, map, replicate, Bool, true, false, ℤ, pos, negsuc, ◌+ℤ◌, ◌-ℤ◌, inl, inr, refl, sym, ◌∙◌, ap, arith}
use Rattle.std.specs.Prelude.{◌&&◌, ◌||◌, nat_lt, is_some, Option, None, Some, slice_get, slice_index, slice_index_or, if◌then◌else◌}
use Rattle.std.specs.List.{AllByRecursion, flat_map}
use Rattle.std.proofs.lemmas.Bool.{cases_lt}
use Rattle.std.proofs.lemmas.Bool.Decides.{nat_tests}
use Rattle.std.proofs.lemmas.List.{append-nil, get_or-map, get_or-replicate, get_or_past, length-map, length-replicate}
use Rattle.std.proofs.lemmas.Option.{slice_get_within, get_or_from_slice_get}
use Rattle.sv_base.specs.declared.kind.Kind.TheVariants.{TwoDrivers, InputDriven}
use Rattle.sv_base.specs.declared.refusal.Place.{Place}
use Rattle.sv_base.specs.declared.refusal.Refusal.{Refusal}
use Rattle.net_ir.specs.declared.design.Var.{Var}
use Rattle.net_ir.specs.declared.statement.Pos.{Pos}
use Rattle.net_ir.specs.Value.{widths_of}
use Rattle.net_ir.specs.Target.{is_fixed, position_of, named_bit, bit_where}
use Rattle.driver_check.specs.declared.runs.Run.{Run}
use Rattle.driver_check.specs.declared.runs.Taken.{Taken}
use Rattle.driver_check.specs.Written.{Named, names_of}
use Rattle.driver_check.specs.Driven.{Source, drives, first_driver, is_driven, some_below, takes, is_input, refused_var, refused_taking, refused_source}
use Rattle.driver_check.specs.Taking.{taken_source}
use Rattle.driver_check.specs.code.Runs.{covered, run_at, run_of, taken_at, taken_of, taken_named, taken_by, in_run}
use Rattle.driver_check.specs.code.Marks.{undriven, row_of, entry, HasShape, IsInside, AreInside, is_marked, refused_by, flaw_at, flaw_of, flaws_of}
use Rattle.driver_check.proofs.Opened.{flat_map_twice}
use Rattle.driver_check.proofs.Bits.{between, in_taken}
use Rattle.driver_check.proofs.Marking.{some_of, none_of, some_same, run_cases}
use Rattle.driver_check.proofs.Rows.{row_length, eq_same}

-- ---- runs lie in their variables

end_between : (z y : ℤ) (w : ℕ) → (between z y w).end ≤ w
end_between (pos m) (pos j) w = grind (arith, nat_tests)
end_between (pos m) (negsuc j) w = grind (arith, nat_tests)
end_between (negsuc m) (pos j) w = grind (arith, nat_tests)
end_between (negsuc m) (negsuc j) w = grind (arith, nat_tests)

end_covered : (z : ℤ) (n w : ℕ) → (covered z n w).end ≤ w
end_covered z n w = end_between z (z +ℤ pos n) w

end_place : (ws : List ℕ) (v : Var) (p : Pos) → (run_at ws v p).end ≤ v.width
end_place ws v p = by_test (is_fixed p) where
  by_test : (t : Bool) → (if t then covered (position_of ws [] p -ℤ pos v.low) p.width v.width else record { low = 0; end = v.width }).end ≤ v.width
  by_test true = end_covered (position_of ws [] p -ℤ pos v.low) p.width v.width
  by_test false = let same : v.width ≤ v.width = omega arith in same

pub end_taken : (ws : List ℕ) (v : Var) (p : Option Pos) → (run_of ws v p).end ≤ v.width
end_taken ws v None = let same : v.width ≤ v.width = omega arith in same
end_taken ws v (Some p) = end_place ws v p

pub width_at : (vars : List Var) (x : ℕ) (v : Var) → slice_get vars x ≡ Some v → slice_index (widths_of vars) x ≡ v.width
width_at vars x v is = get_or-map (λ (u : Var). u.width) vars x v 0 (slice_get_within vars x v is) ∙ ap (λ (u : Var). u.width) (get_or_from_slice_get vars x v v is)

all_append : {X : Type 0} (P : X → Type 0) (xs ys : List X) → AllByRecursion P xs → AllByRecursion P ys → AllByRecursion P (xs ++ ys)
all_append P [] ys first second = second
all_append P (x ∷ xs) ys first second = (first.0, all_append P xs ys first.1 second)

all_flat : {X Y : Type 0} (P : Y → Type 0) (f : X → List Y) → ((x : X) → AllByRecursion P (f x)) → (xs : List X) → AllByRecursion P (flat_map f xs)
all_flat P f each [] = tt
all_flat P f each (x ∷ xs) = all_append P (f x) (flat_map f xs) (each x) (all_flat P f each xs)

module _ (vars : List Var) where
  at_inside : (x : ℕ) (p : Option Pos) (found : Option Var) → slice_get vars x ≡ found → AreInside (widths_of vars) (taken_at vars x found p)
  at_inside x p None is = tt
  at_inside x p (Some v) is =
      let all = length-map vars (λ (u : Var). u.width) in
      let within = slice_get_within vars x v is in
      let low : x < length (widths_of vars) = omega (arith, all, within) in
      let width = width_at vars x v is in
      let most = end_taken (widths_of vars) v p in
      let high : (run_of (widths_of vars) v p).end ≤ slice_index (widths_of vars) x = omega (arith, width, most) in
      ((low, high), tt)

  name_inside : (n : Named) → AreInside (widths_of vars) (taken_named vars n)
  name_inside n = of_var n.var where
    of_var : (var : Option ℕ) → AreInside (widths_of vars) (taken_of vars var n.pos)
    of_var None = tt
    of_var (Some x) = at_inside x n.pos (slice_get vars x) refl

  -- what a driver takes is there
  pub source_inside : (source : Source) → AreInside (widths_of vars) (taken_source vars source).taken
  source_inside source = all_flat (IsInside (widths_of vars)) (taken_by vars) (λ t. all_flat (IsInside (widths_of vars)) (taken_named vars) name_inside (names_of t)) source.targets

-- ---- the first driver of a bit

or_left : (a b : Bool) → (a || b) ≡ false → a ≡ false
or_left true b is = is
or_left false b is = refl

or_right : (a b : Bool) → (a || b) ≡ false → b ≡ false
or_right true b is = absurd (let clash : true ≡ false = is in cc)
or_right false b is = is

later : (s b : Bool) (n m j : ℕ) (r q : Option ℕ) → (s ≡ true → b ≡ false) → r ≡ (if s then Some m else q) → m ≡ j →
    (if b then Some n else r) ≡ (if s then Some j else (if b then Some n else q))
later true true n m j r q apart is same = absurd (let clash : true ≡ false = apart refl in cc)
later true false n m j r q apart is same = is ∙ ap Some same
later false true n m j r q apart is same = refl
later false false n m j r q apart is same = is

told : (b q : Bool) (n : ℕ) (r : Option ℕ) → is_some r ≡ q → is_some (if b then Some n else r) ≡ (b || q)
told true q n r is = refl
told false q n r is = is

module _ (vars : List Var) (x k : ℕ) where
  pub some_driver : (n : ℕ) (sources : List Source) → is_some (first_driver vars n sources x k) ≡ is_driven vars sources x k
  some_driver n [] = refl
  some_driver n (source ∷ rest) = told (drives vars source x k) (is_driven vars rest x k) n (first_driver vars (n + 1) rest x k) (some_driver (n + 1) rest)

  -- a driver more, which takes no bit that one before it drives
  pub driver_more : (source : Source) (n : ℕ) (before : List Source) → (drives vars source x k ≡ true → is_driven vars before x k ≡ false) →
      first_driver vars n (before ++ source ∷ []) x k ≡ (if drives vars source x k then Some (n + length before) else first_driver vars n before x k)
  driver_more source n [] apart =
      let same : n ≡ n + 0 = omega arith in
      ap (λ m. if drives vars source x k then Some m else None) same
  driver_more source n (b ∷ before) apart =
      let same : n + 1 + length before ≡ n + suc (length before) = omega arith in
      later (drives vars source x k) (drives vars b x k) n (n + 1 + length before) (n + suc (length before)) (first_driver vars (n + 1) (before ++ source ∷ []) x k) (first_driver vars (n + 1) before x k)
      (λ is. or_left (drives vars b x k) (is_driven vars before x k) (apart is))
      (driver_more source (n + 1) before (λ is. or_right (drives vars b x k) (is_driven vars before x k) (apart is)))
      same

-- ---- rows and the drivers so far

-- each bit has the number of the first of these drivers that takes it
pub record HasDrivers (vars : List Var) (before : List Source) (rows : List (List (Option ℕ))) : Type 0 where
  pub shape : HasShape vars rows
  pub tells : (x k : ℕ) → entry rows x k ≡ first_driver vars 0 before x k

shape_none : (vars : List Var) → map length (map undriven vars) ≡ widths_of vars
shape_none [] = refl
shape_none (v ∷ vars) = ap (λ w. w ∷ map length (map undriven vars)) (length-replicate v.width None) ∙ ap (λ ws. v.width ∷ ws) (shape_none vars)

abbrev no_numbers : ℕ → List (Option ℕ)
no_numbers n = replicate n None

bit_none : (n k : ℕ) → slice_index_or (no_numbers n) k None ≡ None
bit_none n k = elim (cases_lt k n) [
  | inl within ↦ get_or-replicate n k None None within
  | inr past ↦ let all : length (no_numbers n) ≡ n = length-replicate n None in get_or_past (no_numbers n) k None (omega (arith, all, past))
]

entry_none : (vars : List Var) (x k : ℕ) → entry (map undriven vars) x k ≡ None
entry_none [] x k = refl
entry_none (v ∷ vars) zero k = bit_none v.width k
entry_none (v ∷ vars) (suc x) k = entry_none vars x k

pub none_driven : (vars : List Var) → HasDrivers vars [] (map undriven vars)
none_driven vars = record { shape = shape_none vars; tells = entry_none vars }

abbrev input_driven : Place → List ℕ → Refusal
input_driven place name = record { kind = InputDriven; place = place; name = name }

abbrev two_drivers : Place → List ℕ → Refusal
two_drivers place name = record { kind = TwoDrivers; place = place; name = name }

one_refusal : (i a b : Bool) (place : Place) (name : List ℕ) →
    (if i then (if a then record { kind = InputDriven; place = place; name = name } ∷ [] else []) else (if b then record { kind = TwoDrivers; place = place; name = name } ∷ [] else []))
    ≡ refused_by place name (if i then (if a then Some InputDriven else None) else (if b then Some TwoDrivers else None))
one_refusal true true b place name = refl
one_refusal true false b place name = refl
one_refusal false a true place name = refl
one_refusal false a false place name = refl

pub no_conflict : (i a b : Bool) (place : Place) (name : List ℕ) →
    refused_by place name (if i then (if a then Some InputDriven else None) else (if b then Some TwoDrivers else None)) ≡ [] → a ≡ true → b ≡ false
no_conflict true true b place name none is = absurd (let clash : input_driven place name ∷ [] ≡ [] = none in cc)
no_conflict true false b place name none is = absurd (let clash : false ≡ true = is in cc)
no_conflict false a true place name none is = absurd (let clash : two_drivers place name ∷ [] ≡ [] = none in cc)
no_conflict false a false place name none is = refl

in_range : (run : Run) (w : ℕ) → run.end ≤ w → some_below w (in_run run) ≡ nat_lt run.low run.end
in_range run w fits = elim (cases_lt run.low run.end) [
  | inl low ↦
      let yes_low : nat_lt run.low run.end ≡ true = grind (arith, nat_tests) in
      let first : in_run run run.low ≡ true = grind (arith, nat_tests) in
      some_of w run.low (in_run run) (omega arith) first ∙ sym yes_low
  | inr high ↦
      let not_low : nat_lt run.low run.end ≡ false = grind (arith, nat_tests) in
      none_of w (in_run run) (λ k within. run_cases (in_run run k ≡ false) run k (λ low below. absurd (omega arith)) (λ out. out)) ∙ sym not_low
]

module _ (vars : List Var) (before : List Source) (rows : List (List (Option ℕ))) (has : HasDrivers vars before rows) where
  pub row_width : (x : ℕ) (v : Var) → slice_get vars x ≡ Some v → length (row_of rows x) ≡ v.width
  row_width x v is =
      let all = ap length has.shape in
      let rows_all = length-map rows length in
      let vars_all = length-map vars (λ (u : Var). u.width) in
      let within = slice_get_within vars x v is in
      let low : x < length rows = omega (arith, all, rows_all, vars_all, within) in
      sym (row_length rows x low) ∙ ap (λ ws. slice_index ws x) has.shape ∙ width_at vars x v is

  marks_driven : (x k : ℕ) → is_some (entry rows x k) ≡ is_driven vars before x k
  marks_driven x k = ap is_some (has.tells x k) ∙ some_driver vars x k 0 before

  module _ (place : Place) (n : Named) (x : ℕ) (names : n.var ≡ Some x) (v : Var) (is : slice_get vars x ≡ Some v) where
    abbrev run : Run
    run = run_of (widths_of vars) v n.pos

    takes_run : (k : ℕ) → takes vars n x k ≡ in_run run k
    takes_run k =
        ap (λ var. named_bit vars var n.pos x k) names
        ∙ ap (λ t. t && bit_where (widths_of vars) (slice_get vars x) n.pos k) (eq_same x)
        ∙ ap (λ found. bit_where (widths_of vars) found n.pos k) is
        ∙ sym (in_taken (widths_of vars) v n.pos k)

    takes_some : some_below v.width (takes vars n x) ≡ nat_lt run.low run.end
    takes_some = some_same v.width (takes vars n x) (in_run run) (λ k within. takes_run k) ∙ in_range run v.width (end_taken (widths_of vars) v n.pos)

    takes_driven : some_below v.width (λ k. takes vars n x k && is_driven vars before x k) ≡ is_marked (row_of rows x) run
    takes_driven =
        some_same v.width (λ k. takes vars n x k && is_driven vars before x k) (λ k. in_run run k && is_some (entry rows x k))
        (λ k within. ap (λ t. t && is_driven vars before x k) (takes_run k) ∙ ap (λ t. in_run run k && t) (sym (marks_driven x k)))
        ∙ ap (λ w. some_below w (λ k. in_run run k && is_some (entry rows x k))) (sym (row_width x v is))

    var_flaw : refused_var vars before place n x (Some v) ≡ flaw_at rows place (record { var = x; run = run }) (Some v)
    var_flaw =
        one_refusal (is_input v.role) (some_below v.width (takes vars n x)) (some_below v.width (λ k. takes vars n x k && is_driven vars before x k)) place v.name
        ∙ ap (λ a. refused_by place v.name (if is_input v.role then (if a then Some InputDriven else None) else (if some_below v.width (λ k. takes vars n x k && is_driven vars before x k) then Some TwoDrivers else None))) takes_some
        ∙ ap (λ b. refused_by place v.name (if is_input v.role then (if nat_lt run.low run.end then Some InputDriven else None) else (if b then Some TwoDrivers else None))) takes_driven

  found_flaw : (place : Place) (n : Named) (x : ℕ) → n.var ≡ Some x → (found : Option Var) → slice_get vars x ≡ found →
      refused_var vars before place n x found ≡ flat_map (flaw_of vars rows place) (taken_at vars x found n.pos)
  found_flaw place n x names None is = refl
  found_flaw place n x names (Some v) is =
      let t : Taken = record { var = x; run = run_of (widths_of vars) v n.pos } in
      var_flaw place n x names v is ∙ sym (ap (flaw_at rows place t) is) ∙ sym (append-nil (flaw_of vars rows place t))

  name_flaw : (place : Place) (n : Named) → refused_taking vars before place n n.var ≡ flat_map (flaw_of vars rows place) (taken_named vars n)
  name_flaw place n = of_var n.var refl where
    of_var : (var : Option ℕ) → n.var ≡ var → refused_taking vars before place n var ≡ flat_map (flaw_of vars rows place) (taken_of vars var n.pos)
    of_var None names = refl
    of_var (Some x) names = found_flaw place n x names (slice_get vars x) refl

  names_flaw : (place : Place) (names : List Named) → flat_map (λ n. refused_taking vars before place n n.var) names ≡ flat_map (flaw_of vars rows place) (flat_map (taken_named vars) names)
  names_flaw place names =
      same_flat names ∙ sym (flat_map_twice (flaw_of vars rows place) (taken_named vars) names) where
        same_flat : (ns : List Named) → flat_map (λ n. refused_taking vars before place n n.var) ns ≡ flat_map (λ n. flat_map (flaw_of vars rows place) (taken_named vars n)) ns
        same_flat [] = refl
        same_flat (n ∷ ns) = ap (λ r. r ++ flat_map (λ m. refused_taking vars before place m m.var) ns) (name_flaw place n) ∙ ap (λ r. flat_map (flaw_of vars rows place) (taken_named vars n) ++ r) (same_flat ns)

  -- what is refused of a driver shows in the rows
  pub source_flaws : (source : Source) → refused_source vars before source ≡ flaws_of vars rows (taken_source vars source)
  source_flaws source =
      names_flaw source.place (flat_map names_of source.targets)
      ∙ ap (flat_map (flaw_of vars rows source.place)) (flat_map_twice (taken_named vars) names_of source.targets)
