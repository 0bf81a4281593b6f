-- What the answers of tests say.
use Rattle.std.proofs.Common.{◌≡◌, ◌≢◌, ℕ, ◌+◌, ◌<◌, Bool, true, false, cond, inl, inr, List, [], ◌∷◌, ◌++◌, length, take, get_or, sym, ◌∙◌, ap, subst, arith}
use Rattle.std.specs.Prelude.{All, AllPairs}
use Rattle.std.specs.List.{filter}
use Rattle.std.proofs.lemmas.Bool.{cases_Bool, cases_lt, cond-true, cond-false, true≢false}
use Rattle.std.proofs.lemmas.List.{get_or_default, get_or-take, length-take-le}
use Rattle.std.proofs.lemmas.List.Elements.{All-nil, All-cons, All-head, All-tail}
use Rattle.sv_base.specs.declared.face.Port.{Port}

-- all that pass a test have a property exactly where each that passes has it
pub all_passing : {X : Type 0} (test : X → Bool) (P : X → Type 0) (xs : List X) → All (λ x. test x ≡ true → P x) xs → All P (filter test xs)
all_passing test P [] all = All-nil P
all_passing test P (x ∷ xs) all =
    let rest : All P (filter test xs) = all_passing test P xs (All-tail (λ y. test y ≡ true → P y) x xs all) in
    elim (cases_Bool (test x)) [
      | inl passes ↦ subst (All P) (sym (cond-true (test x) (x ∷ filter test xs) (filter test xs) passes)) (All-cons P x (filter test xs) (All-head (λ y. test y ≡ true → P y) x xs all passes) rest)
      | inr fails ↦ subst (All P) (sym (cond-false (test x) (x ∷ filter test xs) (filter test xs) fails)) rest
    ]

pub passing_all : {X : Type 0} (test : X → Bool) (P : X → Type 0) (xs : List X) → All P (filter test xs) → All (λ x. test x ≡ true → P x) xs
passing_all test P [] all = All-nil (λ y. test y ≡ true → P y)
passing_all test P (x ∷ xs) all =
    elim (cases_Bool (test x)) [
      | inl passes ↦
          let both : All P (x ∷ filter test xs) = subst (All P) (cond-true (test x) (x ∷ filter test xs) (filter test xs) passes) all in
          All-cons (λ y. test y ≡ true → P y) x xs (λ _. All-head P x (filter test xs) both) (passing_all test P xs (All-tail P x (filter test xs) both))
      | inr fails ↦
          All-cons (λ y. test y ≡ true → P y) x xs (λ other. absurd (true≢false (sym other ∙ fails)))
          (passing_all test P xs (subst (All P) (cond-false (test x) (x ∷ filter test xs) (filter test xs) fails) all))
    ]

-- a property of the items below a place, and of the item there
pub all_more : {X : Type 0} (P : X → Type 0) (xs : List X) (i : ℕ) (x : X) → i < length xs → x ≡ get_or xs i x → P x → ((k : ℕ) (d : X) → k < i → P (get_or xs k d)) → (k : ℕ) (d : X) → k < i + 1 → P (get_or xs k d)
all_more P xs i x inside is here below k d low =
    elim (cases_lt k i) [
      | inl before ↦ below k d before
      | inr last ↦
          let same : k ≡ i = omega arith in
          subst (λ n. P (get_or xs n d)) (sym same) (subst P (is ∙ get_or_default xs i x d inside) here)
    ]

-- ---- names of ports

pub new_pair : (ports : List Port) (k : ℕ) (item : Port) → k < length ports → item ≡ get_or ports k item → All (λ p. p.name ≢ item.name) (take k ports) → (i : ℕ) (d : Port) → i < k → (get_or ports i d).name ≢ (get_or ports k d).name
new_pair ports k item inside is all i d low same =
    let sized : length (take k ports) ≡ k = length-take-le k ports (omega arith) in
    all i d (omega arith) (ap (λ (p : Port). p.name) (get_or-take k ports i d low) ∙ same ∙ sym (ap (λ (p : Port). p.name) (is ∙ get_or_default ports k item d inside)))

pub pair_new : (ports : List Port) (k : ℕ) (item : Port) → k < length ports → item ≡ get_or ports k item → AllPairs (λ p q. p.name ≢ q.name) ports → All (λ p. p.name ≢ item.name) (take k ports)
pair_new ports k item inside is pairs i d low same =
    let sized : length (take k ports) ≡ k = length-take-le k ports (omega arith) in
    let before : i < k = omega arith in
    pairs i k d before inside (sym (ap (λ (p : Port). p.name) (get_or-take k ports i d before)) ∙ same ∙ ap (λ (p : Port). p.name) (is ∙ get_or_default ports k item d inside))
