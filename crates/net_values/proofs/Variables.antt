-- Variables and their widths by their numbers.
use Rattle.std.proofs.Common.{◌≡◌, ℕ, ◌<◌, ◌≤◌, List, length, get_or, ◌∙◌, ap, arith, None, Some, inl, inr}
use Rattle.std.specs.Prelude.{slice_index, slice_get, ◌⊎◌}
use Rattle.std.proofs.lemmas.List.{length-map, get_or-map}
use Rattle.std.proofs.lemmas.Option.{slice_get_cases, slice_get_within, get_or_from_slice_get}
use Rattle.net_ir.specs.declared.design.Var.{Var}
use Rattle.net_ir.specs.Value.{widths_of}

pub length-widths : (vars : List Var) → length (widths_of vars) ≡ length vars
length-widths vars = length-map vars (λ v. v.width)

-- the width of a variable that is there
pub width_is : (vars : List Var) (x : ℕ) (v : Var) → slice_get vars x ≡ Some v → slice_index (widths_of vars) x ≡ v.width
width_is vars x v is =
    get_or-map (λ (w : Var). w.width) vars x v 0 (slice_get_within vars x v is) ∙ ap (λ (w : Var). w.width) (get_or_from_slice_get vars x v v is)

-- an element stands at each number below their count
pub element_at : {X : Type 0} (xs : List X) (i : ℕ) → i < length xs → (x : X) × (slice_get xs i ≡ Some x)
element_at {X = X} xs i within = by_case (slice_get_cases xs i).1 where
  by_case : ((x : X) × (i < length xs) × (slice_get xs i ≡ Some x) × (get_or xs i x ≡ x)) ⊎ ((length xs ≤ i) × (slice_get xs i ≡ None)) →
      (x : X) × (slice_get xs i ≡ Some x)
  by_case (inl found) = (found.0, found.2)
  by_case (inr past) = absurd (let far : length xs ≤ i = past.0 in omega arith)
