-- Rows of bits with their drivers' numbers, as sources are judged and marked.
use Rattle.std.specs.Prelude.{◌≡◌, ℕ, ◌<◌, ◌≤◌, ◌&&◌, nat_lt, Bool, is_some, List, [], ◌∷◌, length, map, replicate, Option, None, Some, slice_get, slice_index, slice_index_or, if◌then◌else◌}
use Rattle.std.specs.List.{AllByRecursion, flat_map}
use Rattle.sv_base.specs.declared.kind.Kind.{Kind}
use Rattle.sv_base.specs.declared.kind.Kind.TheVariants.{TwoDrivers, InputDriven}
use Rattle.sv_base.specs.declared.refusal.Place.{Place}
use Rattle.sv_base.specs.declared.refusal.Refusal.{Refusal}
use Rattle.net_ir.specs.declared.design.Role.{Role}
use Rattle.net_ir.specs.declared.design.Var.{Var}
use Rattle.net_ir.specs.Value.{widths_of}
use Rattle.driver_check.specs.declared.runs.Run.{Run}
use Rattle.driver_check.specs.declared.runs.Taken.{Taken}
use Rattle.driver_check.specs.declared.sources.Source.{Source}
use Rattle.driver_check.specs.Driven.{some_below, is_input}
use Rattle.driver_check.specs.code.Runs.{in_run, any_has}

-- ---- rows

-- the bits of a variable, none of which has a driver
abbrev pub undriven : Var → List (Option ℕ)
undriven v = replicate v.width None

abbrev pub row_of : List (List (Option ℕ)) → ℕ → List (Option ℕ)
row_of rows x = slice_index_or rows x []

-- the number that a bit has; one that is not there has none
abbrev pub entry : List (List (Option ℕ)) → ℕ → ℕ → Option ℕ
entry rows x k = slice_index_or (row_of rows x) k None

-- a row for each variable, with an entry for each of its bits
abbrev pub HasShape : List Var → List (List (Option ℕ)) → Type 0
HasShape vars rows = map length rows ≡ widths_of vars

-- what is taken is there, where variables have these widths
abbrev pub IsInside : List ℕ → Taken → Type 0
IsInside ws t = (t.var < length ws) × (t.run.end ≤ slice_index ws t.var)

abbrev pub AreInside : List ℕ → List Taken → Type 0
AreInside ws taken = AllByRecursion (IsInside ws) taken

-- ---- what is refused

-- whether some bit of a run has a number
abbrev pub is_marked : List (Option ℕ) → Run → Bool
is_marked row run = some_below (length row) (λ k. in_run run k && is_some (slice_index_or row k None))

-- why a run of a variable's bits may not be driven, where it may not
abbrev pub conflict : Role → List (Option ℕ) → Run → Option Kind
conflict role row run =
    if is_input role
    then (if nat_lt run.low run.end then Some InputDriven else None)
    else (if is_marked row run then Some TwoDrivers else None)

abbrev pub refused_by : Place → List ℕ → Option Kind → List Refusal
refused_by place name None = []
refused_by place name (Some kind) = record { kind = kind; place = place; name = name } ∷ []

abbrev pub flaw_at : List (List (Option ℕ)) → Place → Taken → Option Var → List Refusal
flaw_at rows place t None = []
flaw_at rows place t (Some v) = refused_by place v.name (conflict v.role (row_of rows t.var) t.run)

-- what is refused of bits that a driver at a place takes
abbrev pub flaw_of : List Var → List (List (Option ℕ)) → Place → Taken → List Refusal
flaw_of vars rows place t = flaw_at rows place t (slice_get vars t.var)

abbrev pub flaws_of : List Var → List (List (Option ℕ)) → Source → List Refusal
flaws_of vars rows source = flat_map (flaw_of vars rows source.place) source.taken

-- ---- marks

-- the bits of a run have a number, and the others what they had
pub record IsMarked (run : Run) (number : ℕ) (old new : List (Option ℕ)) : Type 0 where
  pub size : length new ≡ length old
  pub bits : (k : ℕ) → k < length old → slice_index_or new k None ≡ (if in_run run k then Some number else slice_index_or old k None)

-- what is taken has a number, and the other bits what they had
pub record AreMarked (taken : List Taken) (number : ℕ) (old new : List (List (Option ℕ))) : Type 0 where
  pub shape : map length new ≡ map length old
  pub bits : (x k : ℕ) → entry new x k ≡ (if any_has taken x k then Some number else entry old x k)
