-- A word for each variable.
use Rattle.std.proofs.Common.{◌≡◌, ℕ, zero, suc, ◌+◌, List, [], ◌∷◌, length, refl, ◌∙◌, ap, arith, None, Some}
use Rattle.std.specs.Prelude.{slice_index, slice_get}
use Rattle.net_ir.specs.declared.design.Var.{Var}

-- what a function of each variable and its number gives, where the first has number n
abbrev pub words_by : (ℕ → Var → ℕ) → ℕ → List Var → List ℕ
words_by f n [] = []
words_by f n (v ∷ vars) = f n v ∷ words_by f (n + 1) vars

pub length-words_by : (f : ℕ → Var → ℕ) (n : ℕ) (vars : List Var) → length (words_by f n vars) ≡ length vars
length-words_by f n [] = refl
length-words_by f n (v ∷ vars) = ap (λ m. suc m) (length-words_by f (n + 1) vars)

words_by_at : (f : ℕ → Var → ℕ) (n : ℕ) (vars : List Var) (i x : ℕ) (v : Var) → n + i ≡ x → slice_get vars i ≡ Some v →
    slice_index (words_by f n vars) i ≡ f x v
words_by_at f n [] i x v number at = absurd (let clash : None ≡ Some v = at in cc)
words_by_at f n (w ∷ vars) zero x v number at =
    let here : n ≡ x = omega arith in
    let found : Some w ≡ Some v = at in
    let same : w ≡ v = cc in
    ap (λ m. f m w) here ∙ ap (f x) same
words_by_at f n (w ∷ vars) (suc i) x v number at = words_by_at f (n + 1) vars i x v (omega arith) at

-- so where they are all the variables
pub word_at : (f : ℕ → Var → ℕ) (vars : List Var) (x : ℕ) (v : Var) → slice_get vars x ≡ Some v → slice_index (words_by f 0 vars) x ≡ f x v
word_at f vars x v at = words_by_at f 0 vars x x v (omega arith) at
