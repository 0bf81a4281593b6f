-- What was written of a list is read again.
use Rattle.std.proofs.Common.{◌≡◌, ℕ, zero, suc, ◌≤◌, false, List, [], ◌∷◌, ◌++◌, length, map, Option, Some, None, refl, ap, ◌∙◌, append_assoc, arith}
use Rattle.std.specs.List.{flat_map, AllByRecursion}
use Rattle.dpi_wrapper.specs.code.Reading.{behind, items_behind, items_at}
use Rattle.dpi_wrapper.proofs.Again.{behind_again, begins_with_digit}

-- items of which each is written behind a front, and read again by its value
pub record IsReadable {X Y : Type 0} (front : List ℕ) (item : List ℕ → Option (Y × List ℕ)) (text : X → List ℕ) (value : X → Y)
    (IsGood : X → Type 0) : Type 0 where
  pub again : (x : X) (rest : List ℕ) → IsGood x → begins_with_digit rest ≡ false → item (text x ++ rest) ≡ Some (value x, rest)
  pub no_digit : (rest : List ℕ) → begins_with_digit (front ++ rest) ≡ false

-- a text of items with their fronts
abbrev pub items_text : {X : Type 0} → List ℕ → (X → List ℕ) → List X → List ℕ
items_text front text xs = flat_map (λ x. front ++ text x) xs

-- no digit stands behind an item
pub no_digit_behind : {X Y : Type 0} (front : List ℕ) (item : List ℕ → Option (Y × List ℕ)) (text : X → List ℕ) (value : X → Y) (IsGood : X → Type 0)
    → IsReadable front item text value IsGood
    → (xs : List X) (rest : List ℕ) → begins_with_digit rest ≡ false → begins_with_digit (items_text front text xs ++ rest) ≡ false
no_digit_behind front item text value IsGood readable [] rest h = h
no_digit_behind front item text value IsGood readable (x ∷ xs) rest h =
    ap begins_with_digit (append_assoc (front ++ text x) (items_text front text xs) rest ∙ append_assoc front (text x) (items_text front text xs ++ rest))
    ∙ readable.no_digit (text x ++ (items_text front text xs ++ rest))

pub items_again : {X Y : Type 0} (front : List ℕ) (item : List ℕ → Option (Y × List ℕ)) (text : X → List ℕ) (value : X → Y) (IsGood : X → Type 0)
    → IsReadable front item text value IsGood
    → (rest : List ℕ) → behind front rest ≡ None → begins_with_digit rest ≡ false
    → (limit : ℕ) (xs : List X) → length xs ≤ limit → AllByRecursion IsGood xs
    → items_at front item limit (items_text front text xs ++ rest) ≡ Some (map value xs, rest)
unfolding items_at
items_again front item text value IsGood readable rest none h zero [] few good = refl
items_again front item text value IsGood readable rest none h zero (x ∷ xs) few good = absurd (omega arith)
items_again front item text value IsGood readable rest none h (suc limit) [] few good = ap (items_behind item (items_at front item limit) rest) none
items_again front item text value IsGood readable rest none h (suc limit) (x ∷ xs) few good =
    let others = items_text front text xs ++ rest in
    let regrouped : items_text front text (x ∷ xs) ++ rest ≡ front ++ (text x ++ others) =
    append_assoc (front ++ text x) (items_text front text xs) rest ∙ append_assoc front (text x) others in
    let first : item (text x ++ others) ≡ Some (value x, others) =
    readable.again x others good.0 (no_digit_behind front item text value IsGood readable xs rest h) in
    let more : items_at front item limit others ≡ Some (map value xs, rest) =
    items_again front item text value IsGood readable rest none h limit xs (omega arith) good.1 in
    ap (items_at front item (suc limit)) regrouped
    ∙ ap (items_behind item (items_at front item limit) (front ++ (text x ++ others))) (behind_again front (text x ++ others))
    ∙ rw (first, more) refl
