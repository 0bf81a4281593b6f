-- Marks of variables: a truth value for each, by its number.
use Rattle.std.specs.Prelude.{◌≡◌, ℕ, ◌<◌, Bool, true, false, not, List, [], ◌∷◌, length, slice_set, slice_index_or}
use Rattle.net_ir.specs.Face.{stands_in}

-- the marks with those of these variables; a number that no variable has is passed over
abbrev pub mark_all : List ℕ → List Bool → List Bool
mark_all [] marks = marks
mark_all (x ∷ xs) marks = mark_all xs (slice_set marks x true)

-- there are this many marks, and each tells whether its variable stands in the list
pub record AreMarksOf (count : ℕ) (xs : List ℕ) (marks : List Bool) : Type 0 where
  pub each : length marks ≡ count
  pub tell : (x : ℕ) → x < count → slice_index_or marks x false ≡ stands_in x xs

-- whether variable x has no mark
abbrev pub is_clear : List Bool → ℕ → Bool
is_clear marks x = not (slice_index_or marks x false)
