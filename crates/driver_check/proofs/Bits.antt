-- The runs that a driver takes are the bits that it may write.
use Rattle.std.proofs.Common.{◌≡◌, ℕ, List, [], ◌∷◌, map, Bool, true, false, ℤ, pos, negsuc, ◌+ℤ◌, ◌-ℤ◌, refl, sym, ◌∙◌, ap, subst, arith}
use Rattle.std.specs.Prelude.{◌==◌, ◌||◌, ◌&&◌, not, nat_lt, int_lt, int_le, unsigned_abs, Option, None, Some, slice_get, if◌then◌else◌}
use Rattle.std.specs.List.{flat_map, list_any}
use Rattle.std.proofs.lemmas.Bool.Decides.{nat_tests}
use Rattle.std.proofs.lemmas.List.Folds.{list_any-append}
use Rattle.net_ir.specs.declared.design.Var.{Var}
use Rattle.net_ir.specs.declared.statement.Pos.{Pos}
use Rattle.net_ir.specs.declared.statement.Target.{Target}
use Rattle.net_ir.specs.declared.statement.Target.TheOpen.{Target-F, Of, List as Parts}
use Rattle.net_ir.specs.declared.statement.Target.TheViews.{roll-Target}
use Rattle.net_ir.specs.declared.statement.Target.TheFolds.{map-Target, fold-roll-Target, ind-Target}
use Rattle.net_ir.specs.Value.{widths_of}
use Rattle.net_ir.specs.Target.{is_fixed, covers, position_of, takes_bit, bit_where, named_bit, may_write_layer, may_write}
use Rattle.driver_check.specs.Written.{Named, names_layer, names_of}
use Rattle.driver_check.specs.Driven as driven
use Rattle.driver_check.specs.Driven.{drives}
use Rattle.driver_check.specs.Taking.{taken_source}
use Rattle.driver_check.specs.declared.runs.Run.{Run}
use Rattle.driver_check.specs.declared.runs.Taken.{Taken}
use Rattle.driver_check.specs.code.Runs.{covered, run_at, run_of, taken_at, taken_of, taken_named, taken_by, in_run, has_bit, any_has}

-- ---- lists of tests

pub any_flat : {X Y : Type 0} (p : Y → Bool) (f : X → List Y) (xs : List X) → list_any p (flat_map f xs) ≡ list_any (λ x. list_any p (f x)) xs
any_flat p f [] = refl
any_flat p f (x ∷ xs) = list_any-append p (f x) (flat_map f xs) ∙ ap (λ t. list_any p (f x) || t) (any_flat p f xs)

pub any_same : {X : Type 0} (p q : X → Bool) → ((x : X) → p x ≡ q x) → (xs : List X) → list_any p xs ≡ list_any q xs
any_same p q same [] = refl
any_same p q same (x ∷ xs) = ap (λ t. t || list_any p xs) (same x) ∙ ap (λ t. q x || t) (any_same p q same xs)

or_false : (a : Bool) → (a || false) ≡ a
or_false true = refl
or_false false = refl

and_false : (a : Bool) → false ≡ (a && false)
and_false true = refl
and_false false = refl

-- ---- runs

in_all : (k w : ℕ) → in_run (record { low = 0; end = w }) k ≡ (nat_lt k w && true)
in_all k w = grind (arith, nat_tests)

-- of a word of w bits, those from one place on, below another
abbrev pub between : ℤ → ℤ → ℕ → Run
between z y w =
    if int_le y (pos 0) || int_le (pos w) z
    then record { low = 0; end = 0 }
    else record { low = if int_lt z (pos 0) then 0 else unsigned_abs z; end = if int_lt (pos w) y then w else unsigned_abs y }

in_between : (z y : ℤ) (w k : ℕ) → in_run (between z y w) k ≡ (nat_lt k w && (not (int_lt (pos k) z) && int_lt (pos k) y))
in_between (pos m) (pos j) w k = grind (arith, nat_tests)
in_between (pos m) (negsuc j) w k = grind (arith, nat_tests)
in_between (negsuc m) (pos j) w k = grind (arith, nat_tests)
in_between (negsuc m) (negsuc j) w k = grind (arith, nat_tests)

in_covered : (z : ℤ) (n w k : ℕ) → in_run (covered z n w) k ≡ (nat_lt k w && covers z n k)
in_covered z n w k = in_between z (z +ℤ pos n) w k

in_place : (ws : List ℕ) (v : Var) (p : Pos) (k : ℕ) → in_run (run_at ws v p) k ≡ (nat_lt k v.width && takes_bit ws v (Some p) k)
in_place ws v p k = by_test (is_fixed p) where
  by_test : (t : Bool) →
      in_run (if t then covered (position_of ws [] p -ℤ pos v.low) p.width v.width else record { low = 0; end = v.width }) k
      ≡ (nat_lt k v.width && (if t then covers (position_of ws [] p -ℤ pos v.low) p.width k else true))
  by_test true = in_covered (position_of ws [] p -ℤ pos v.low) p.width v.width k
  by_test false = in_all k v.width

pub in_taken : (ws : List ℕ) (v : Var) (p : Option Pos) (k : ℕ) → in_run (run_of ws v p) k ≡ (nat_lt k v.width && takes_bit ws v p k)
in_taken ws v None k = in_all k v.width
in_taken ws v (Some p) k = in_place ws v p k

-- ---- names, targets, drivers

module _ (vars : List Var) (x k : ℕ) where
  abbrev is_here : Taken → Bool
  is_here t = has_bit t x k

  where_taken : (var : ℕ) (v : Option Var) (p : Option Pos) → any_has (taken_at vars var v p) x k ≡ (var == x && bit_where (widths_of vars) v p k)
  where_taken var None p = and_false (var == x)
  where_taken var (Some v) p = or_false (var == x && in_run (run_of (widths_of vars) v p) k) ∙ ap (λ t. var == x && t) (in_taken (widths_of vars) v p k)

  name_taken : (n : Named) → any_has (taken_named vars n) x k ≡ named_bit vars n.var n.pos x k
  name_taken n = of_var n.var where
    of_var : (var : Option ℕ) → any_has (taken_of vars var n.pos) x k ≡ named_bit vars var n.pos x k
    of_var None = refl
    of_var (Some var) = where_taken var (slice_get vars var) n.pos

  abbrev by_name : Named → Bool
  by_name n = named_bit vars n.var n.pos x k

  abbrev IsByNames : Target → Type 0
  IsByNames t = may_write vars t x k ≡ list_any by_name (names_of t)

  all_by_names : (es : List ((t : Target) × IsByNames t)) →
      list_any (λ (part : ℕ → ℕ → Bool). part x k) (map (may_write vars) (map (λ e. e.0) es)) ≡ list_any by_name (flat_map (λ (names : List Named). names) (map names_of (map (λ e. e.0) es)))
  all_by_names [] = refl
  all_by_names (e ∷ es) =
      let rest = flat_map (λ (names : List Named). names) (map names_of (map (λ (e : (t : Target) × IsByNames t). e.0) es)) in
      ap (λ t. t || list_any (λ (part : ℕ → ℕ → Bool). part x k) (map (may_write vars) (map (λ (e : (t : Target) × IsByNames t). e.0) es))) e.1
      ∙ ap (λ t. list_any by_name (names_of e.0) || t) (all_by_names es)
      ∙ sym (list_any-append by_name (names_of e.0) rest)

  layer_by_names : (y : Target-F ((t : Target) × IsByNames t)) → IsByNames (roll-Target (map-Target ((t : Target) × IsByNames t) Target (λ e. e.0) y))
  layer_by_names (Of var name place p) =
      ap (λ f. f x k) (fold-roll-Target (ℕ → ℕ → Bool) (may_write_layer vars) (Of var name place p))
      ∙ sym (or_false (named_bit vars var p x k))
      ∙ sym (ap (list_any by_name) (fold-roll-Target (List Named) names_layer (Of var name place p)))
  layer_by_names (Parts es) =
      let parts = map (λ (e : (t : Target) × IsByNames t). e.0) es in
      ap (λ f. f x k) (fold-roll-Target (ℕ → ℕ → Bool) (may_write_layer vars) (Parts parts))
      ∙ all_by_names es
      ∙ sym (ap (list_any by_name) (fold-roll-Target (List Named) names_layer (Parts parts)))

  target_by_names : (t : Target) → IsByNames t
  target_by_names = ind-Target IsByNames (λ a y is. subst (λ z. IsByNames (roll-Target z)) is (layer_by_names y))

  target_taken : (t : Target) → any_has (taken_by vars t) x k ≡ may_write vars t x k
  target_taken t = any_flat is_here (taken_named vars) (names_of t) ∙ any_same (λ n. any_has (taken_named vars n) x k) by_name name_taken (names_of t) ∙ sym (target_by_names t)

  -- the runs of a driver have the bits that it may write, and no others
  pub source_taken : (source : driven.Source) → any_has (taken_source vars source).taken x k ≡ drives vars source x k
  source_taken source =
      any_flat is_here (taken_by vars) source.targets ∙ any_same (λ t. any_has (taken_by vars t) x k) (λ t. may_write vars t x k) target_taken source.targets
