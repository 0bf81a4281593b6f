-- facts on lists that more than one proof here needs
use Rattle.std.proofs.Common.{◌≡◌, ℕ, suc, zero, ◌+◌, ◌-◌, ◌<◌, List, [], ◌∷◌, ◌++◌, length, take, get_or, eqb, cond, true, false, refl, ap, subst, ◌∙◌, sym, arith, ◌⊎◌, inl, inr, count_by}
use Rattle.std.specs.Prelude.{Contains}
use Rattle.std.proofs.lemmas.Bool.{cases_Bool, cases_lt, eqb-true, eq-eqb, ne_eqb}
use Rattle.std.proofs.lemmas.List.{length-take, length_push, get_or-take, get_or_default, take_at, take_more}
use Rattle.std.proofs.lemmas.List.Elements.{Contains-push_cases}
use Rattle.std.proofs.lemmas.List.Sums.{sum_by-cons, get_or-le-sum_by}
use Rattle.levelise.specs.Search.{Rises, IsLast}

-- an element that is counted stands in the list
pub Contains-from_count : (a : ℕ) (xs : List ℕ) → 0 < count_by (λ b. eqb b a) xs → Contains xs a
Contains-from_count a [] h = absurd (omega arith)
Contains-from_count a (x ∷ xs) h =
    let more : count_by (λ b. eqb b a) (x ∷ xs) ≡ cond (eqb x a) 1 0 + count_by (λ b. eqb b a) xs = sum_by-cons (λ b. cond (eqb b a) 1 0) x xs in
    elim (cases_Bool (eqb x a)) [
      | inl same ↦ (0, omega arith, eqb-true x a same)
      | inr other ↦
          let rest : 0 < count_by (λ b. eqb b a) xs = grind (arith, more, other) in
          let found = Contains-from_count a xs rest in
          (suc found.0, omega (arith, found.1), found.2)
    ]

-- what stands in a front of a list stands in the list
pub Contains-take : {X : Type 0} (n : ℕ) (xs : List X) (a : X) → Contains (take n xs) a → Contains xs a
Contains-take n xs a h =
    let short = length-take n xs in
    let before : h.0 < n = omega (arith, short, h.1) in
    (h.0, omega (arith, short, h.1), sym (get_or-take n xs h.0 a before) ∙ h.2)

-- an element of the list stands in a front that reaches past it
pub Contains-take_at : {X : Type 0} (n : ℕ) (xs : List X) (k : ℕ) (d : X) → k < n → k < length xs →
    Contains (take n xs) (get_or xs k d)
Contains-take_at n xs k d before inside =
    let short = length-take n xs in
    (k, omega (arith, short), get_or-take n xs k (get_or xs k d) before ∙ get_or_default xs k (get_or xs k d) d inside)

-- one more element of the front is the next one of the list
pub Contains-take_more : {X : Type 0} (xs : List X) (i : ℕ) (d a : X) → i < length xs →
    Contains (take (i + 1) xs) a → Contains (take i xs) a ⊎ (get_or xs i d ≡ a)
Contains-take_more xs i d a h there =
    Contains-push_cases (take i xs) (get_or xs i d) a (subst (λ ys. Contains ys a) (take_more xs i d h) there)

-- what stands in a list and is not its last element stands before that
pub Contains-front : (xs : List ℕ) (x a : ℕ) → get_or xs (length xs - 1) 0 ≡ x → (a ≡ x → ⊥) → Contains xs a →
    Contains (take (length xs - 1) xs) a
Contains-front xs x a last other h =
    elim (cases_lt h.0 (length xs - 1)) [
      | inl before ↦ (h.0, omega (arith, length-take (length xs - 1) xs, h.1), get_or-take (length xs - 1) xs h.0 a before ∙ h.2)
      | inr past ↦
          let here : h.0 ≡ length xs - 1 = omega (arith, h.1) in
          absurd (other (sym (sym last ∙ (ap (λ k. get_or xs k 0) (sym here) ∙ (get_or_default xs h.0 0 a h.1 ∙ h.2)))))
    ]

pub Rises-take : (n : ℕ) (xs : List ℕ) → Rises xs → Rises (take n xs)
Rises-take n xs rises i j h inside =
    let short = length-take n xs in
    let before : j < n = omega (arith, short) in
    rw (get_or-take n xs i 0 (omega arith), get_or-take n xs j 0 before) (rises i j h (omega (arith, short)))

-- what stands in a front stands in a longer one
pub front_grows : {X : Type 0} (xs : List X) (i : ℕ) (a : X) → Contains (take i xs) a →
    Contains (take (i + 1) xs) a
front_grows xs i a h =
    let short = length-take i xs in
    let long = length-take (i + 1) xs in
    let before : h.0 < i = omega (arith, short, h.1) in
    (h.0, omega (arith, short, long, h.1), get_or-take (i + 1) xs h.0 a (omega arith) ∙ (sym (get_or-take i xs h.0 a before) ∙ h.2))

-- what does not stand in the list is not counted
pub count_none : (a : ℕ) (xs : List ℕ) → (Contains xs a → ⊥) → count_by (λ b. eqb b a) xs ≡ 0
count_none a [] out = refl
count_none a (x ∷ xs) out =
    let more : count_by (λ b. eqb b a) (x ∷ xs) ≡ cond (eqb x a) 1 0 + count_by (λ b. eqb b a) xs = sum_by-cons (λ b. cond (eqb b a) 1 0) x xs in
    elim (cases_Bool (eqb x a)) [
      | inl same ↦ absurd (out (0, omega arith, eqb-true x a same))
      | inr other ↦
          let rest : count_by (λ b. eqb b a) xs ≡ 0 = count_none a xs (λ h. out (suc h.0, omega (arith, h.1), h.2)) in
          grind (arith, more, other, rest)
    ]

-- what stands at one place alone is counted once
pub count_single : (a : ℕ) (xs : List ℕ) (k : ℕ) → k < length xs → get_or xs k 0 ≡ a →
    ((i : ℕ) → i < length xs → get_or xs i 0 ≡ a → i ≡ k) → count_by (λ b. eqb b a) xs ≡ 1
count_single a [] k inside here alone = absurd (omega arith)
count_single a (x ∷ xs) zero inside here alone =
    let more : count_by (λ b. eqb b a) (x ∷ xs) ≡ cond (eqb x a) 1 0 + count_by (λ b. eqb b a) xs = sum_by-cons (λ b. cond (eqb b a) 1 0) x xs in
    let rest : count_by (λ b. eqb b a) xs ≡ 0 =
    count_none a xs (λ h. let again : suc h.0 ≡ 0 = alone (suc h.0) (omega (arith, h.1)) (get_or_default xs h.0 0 a h.1 ∙ h.2) in omega arith) in
    let same : eqb x a ≡ true = eq-eqb x a here in
    grind (arith, more, same, rest)
count_single a (x ∷ xs) (suc k) inside here alone =
    let more : count_by (λ b. eqb b a) (x ∷ xs) ≡ cond (eqb x a) 1 0 + count_by (λ b. eqb b a) xs = sum_by-cons (λ b. cond (eqb b a) 1 0) x xs in
    let other : eqb x a ≡ false = ne_eqb x a (λ same. let first : 0 ≡ suc k = alone 0 (omega arith) same in omega arith) in
    let rest : count_by (λ b. eqb b a) xs ≡ 1 =
    count_single a xs k (omega arith) here (λ i h there. let next : suc i ≡ suc k = alone (suc i) (omega arith) there in omega arith) in
    grind (arith, more, other, rest)

-- a list whose last element is known, by the list without it
pub last_split : {X : Type 0} (xs : List X) (x : X) (rest : List X) (n : ℕ) → IsLast xs x → n ≡ length xs →
    rest ≡ take (n - 1) xs → xs ≡ rest ++ x ∷ []
last_split xs x rest n last size cut =
    let long : length xs ≡ length last.0 + 1 = ap length last.1 ∙ length_push last.0 x in
    let same : rest ≡ last.0 = cut ∙ (ap (λ ys. take (n - 1) ys) last.1 ∙ take_at last.0 (x ∷ []) (n - 1) (omega arith)) in
    subst (λ ys. xs ≡ ys ++ x ∷ []) (sym same) last.1

-- what stands in the list is counted
pub count_some : (a : ℕ) (xs : List ℕ) → Contains xs a → 0 < count_by (λ b. eqb b a) xs
count_some a xs h =
    let here : eqb (get_or xs h.0 0) a ≡ true = eq-eqb (get_or xs h.0 0) a (get_or_default xs h.0 0 a h.1 ∙ h.2) in
    let least = get_or-le-sum_by (λ b. cond (eqb b a) 1 0) xs h.0 0 h.1 in
    grind (arith, least, here)
