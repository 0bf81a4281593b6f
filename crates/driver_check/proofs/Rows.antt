-- Rows for each variable, in which the bits that a driver takes are marked.
use Rattle.std.proofs.Common.{◌≡◌, ◌≢◌, ℕ, ◌+◌, ◌<◌, ◌≤◌, drop, append_assoc, List, [], ◌∷◌, ◌++◌, length, map, get_or, set, Bool, true, false, inl, inr, refl, sym, ◌∙◌, ap, subst, arith}
use Rattle.std.specs.Prelude.{◌==◌, ◌&&◌, ◌||◌, Option, None, Some, slice_index, slice_index_or, if◌then◌else◌}
use Rattle.std.proofs.lemmas.Bool.{cases_eq, cases_lt}
use Rattle.std.proofs.lemmas.Bool.Decides.{nat_tests}
use Rattle.std.proofs.lemmas.List.{get_or-map, get_or-set_other, get_or-set_same, get_or_past, length-map, length-set, map-set, set-set, set-get_or}
use Rattle.std.proofs.lemmas.List.Folds.{list_any-append}
use Rattle.driver_check.specs.declared.runs.Taken.{Taken}
use Rattle.driver_check.specs.code.Runs.{in_run, has_bit, any_has}
use Rattle.driver_check.specs.code.Marks.{row_of, entry, IsInside, IsMarked, AreMarked}
use Rattle.driver_check.proofs.Firsts.{split_items}
use Rattle.driver_check.proofs.Marking.{run_past}

-- a row has as many bits as the list of lengths says
pub row_length : (rows : List (List (Option ℕ))) (x : ℕ) → x < length rows → slice_index (map length rows) x ≡ length (row_of rows x)
row_length rows x within = get_or-map length rows x [] 0 within

pub there : (rows : List (List (Option ℕ))) (t : Taken) → IsInside (map length rows) t → t.var < length rows
there rows t inside = let same = length-map rows length in omega (arith, same, inside.0)

pub fits : (rows : List (List (Option ℕ))) (t : Taken) → IsInside (map length rows) t → t.run.end ≤ length (row_of rows t.var)
fits rows t inside = let same = row_length rows t.var (there rows t inside) in omega (arith, same, inside.1)

pub eq_same : (x : ℕ) → (x == x) ≡ true
eq_same x = grind (arith, nat_tests)

pub eq_other : (x y : ℕ) → x ≢ y → (x == y) ≡ false
eq_other x y apart = grind (arith, nat_tests)

chosen : (s t : Bool) (a b : Option ℕ) → s ≡ t → (if t then a else b) ≡ (if s then a else b)
chosen s t a b same = sym (ap (λ u. if u then a else b) same)

module _ (t : Taken) (number : ℕ) (rows : List (List (Option ℕ))) (row new other : List (Option ℕ)) (inside : IsInside (map length rows) t) (is : row ≡ row_of rows t.var) (marked : IsMarked t.run number row new) where
  abbrev after : List (List (Option ℕ))
  after = set (set rows t.var other) t.var new

  lengths : length new ≡ length (row_of rows t.var)
  lengths = marked.size ∙ ap length is

  same_shape : map length after ≡ map length rows
  same_shape =
      let here = row_length rows t.var (there rows t inside) in
      ap (map length) (set-set rows t.var other new)
      ∙ map-set length rows t.var new
      ∙ ap (set (map length rows) t.var) (lengths ∙ sym here)
      ∙ set-get_or (map length rows) t.var 0

  -- the row itself
  new_row : row_of after t.var ≡ new
  new_row =
      let within : t.var < length (set rows t.var other) = omega (arith, length-set rows t.var other, there rows t inside) in
      get_or-set_same (set rows t.var other) t.var new [] within

  here_has : (k : ℕ) → any_has (t ∷ []) t.var k ≡ in_run t.run k
  here_has k = ap (λ u. (u && in_run t.run k) || false) (eq_same t.var) ∙ or_none (in_run t.run k) where
    or_none : (b : Bool) → (b || false) ≡ b
    or_none true = refl
    or_none false = refl

  bit_here : (k : ℕ) → slice_index_or new k None ≡ (if in_run t.run k then Some number else entry rows t.var k)
  bit_here k = elim (cases_lt k (length row)) [
    | inl within ↦ marked.bits k within ∙ ap (λ r. if in_run t.run k then Some number else slice_index_or r k None) is
    | inr past ↦
        let same = ap length is in
        let out : in_run t.run k ≡ false = run_past t.run k (omega (arith, past, same, fits rows t inside)) in
        get_or_past new k None (omega (arith, past, marked.size))
        ∙ sym (get_or_past (row_of rows t.var) k None (omega (arith, past, same)))
        ∙ chosen (in_run t.run k) false (Some number) (entry rows t.var k) out
  ]

  there_has : (x k : ℕ) → t.var ≢ x → any_has (t ∷ []) x k ≡ false
  there_has x k apart = ap (λ u. (u && in_run t.run k) || false) (eq_other t.var x apart)

  bit_there : (x k : ℕ) → x ≢ t.var → entry after x k ≡ entry rows x k
  bit_there x k apart =
      ap (λ r. slice_index_or r k None) (get_or-set_other (set rows t.var other) t.var x new [] apart ∙ get_or-set_other rows t.var x other [] apart)

  all_bits : (x k : ℕ) → entry after x k ≡ (if any_has (t ∷ []) x k then Some number else entry rows x k)
  all_bits x k = elim (cases_eq x t.var) [
    | inl same ↦ subst (λ y. entry after y k ≡ (if any_has (t ∷ []) y k then Some number else entry rows y k)) (sym same)
        (ap (λ r. slice_index_or r k None) new_row ∙ bit_here k ∙ sym (ap (λ u. if u then Some number else entry rows t.var k) (here_has k)))
    | inr apart ↦ bit_there x k apart ∙ chosen (any_has (t ∷ []) x k) false (Some number) (entry rows x k) (there_has x k (λ e. apart (sym e)))
  ]

  -- one run is marked
  pub one_marked : AreMarked (t ∷ []) number rows after
  one_marked = record { shape = same_shape; bits = all_bits }

-- ---- one run after another

pub none_marked : (number : ℕ) (rows : List (List (Option ℕ))) → AreMarked [] number rows rows
none_marked number rows = record { shape = refl; bits = λ x k. refl }

twice : (s t : Bool) (a b : Option ℕ) → (if t then a else (if s then a else b)) ≡ (if s || t then a else b)
twice true true a b = refl
twice true false a b = refl
twice false true a b = refl
twice false false a b = refl

pub more_marked : (xs ys : List Taken) (number : ℕ) (old between new : List (List (Option ℕ))) → AreMarked xs number old between → AreMarked ys number between new → AreMarked (xs ++ ys) number old new
more_marked xs ys number old between new first second = record {
  shape = second.shape ∙ first.shape;
  bits = λ x k.
      second.bits x k
      ∙ ap (λ e. if any_has ys x k then Some number else e) (first.bits x k)
      ∙ twice (any_has xs x k) (any_has ys x k) (Some number) (entry old x k)
      ∙ sym (ap (λ u. if u then Some number else entry old x k) (list_any-append (λ t. has_bit t x k) xs ys));
}

-- ---- rows without marks

-- one row more
pub mapped_more : {X Y : Type 0} (f : X → Y) (xs : List X) (i : ℕ) (a : X) (before more : List Y) (y : Y) → i < length xs → a ≡ get_or xs i a → y ≡ f a →
    more ≡ before ++ y ∷ [] → before ++ map f (drop i xs) ≡ map f xs → more ++ map f (drop (i + 1) xs) ≡ map f xs
mapped_more f xs i a before more y within is row pushed so_far =
    ap (λ ys. ys ++ map f (drop (i + 1) xs)) pushed
    ∙ append_assoc before (y ∷ []) (map f (drop (i + 1) xs))
    ∙ ap (λ z. before ++ z ∷ map f (drop (i + 1) xs)) row
    ∙ sym (ap (λ ys. before ++ map f ys) (split_items xs i a within is))
    ∙ so_far
