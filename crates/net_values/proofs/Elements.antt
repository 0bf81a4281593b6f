-- What holds of each element of a list, and of the elements of the lists that they give.
use Rattle.std.proofs.Common.{◌≡◌, ℕ, zero, suc, List, [], ◌∷◌, ◌++◌, map, Bool, false, refl, ◌∙◌, ap, subst, None, Some}
use Rattle.std.specs.Prelude.{◌||◌, slice_get}
use Rattle.std.specs.List.{AllByRecursion, flat_map, list_any}
use Rattle.std.proofs.lemmas.Bool.{or_parts, or_from}
use Rattle.net_values.proofs.Terms.{all_front, all_back}

-- what follows from a fact of each element, and from two
pub all_from : {X : Type 0} (P Q : X → Type 0) → ((x : X) → P x → Q x) → (xs : List X) → AllByRecursion P xs → AllByRecursion Q xs
all_from P Q step [] all = tt
all_from P Q step (x ∷ xs) all = (step x all.0, all_from P Q step xs all.1)

pub all_both : {X : Type 0} (P Q R : X → Type 0) → ((x : X) → P x → Q x → R x) → (xs : List X) → AllByRecursion P xs → AllByRecursion Q xs → AllByRecursion R xs
all_both P Q R step [] p q = tt
all_both P Q R step (x ∷ xs) p q = (step x p.0 q.0, all_both P Q R step xs p.1 q.1)

-- what holds of each holds of the element at a place
pub all_get : {X : Type 0} (P : X → Type 0) (xs : List X) (i : ℕ) (x : X) → AllByRecursion P xs → slice_get xs i ≡ Some x → P x
all_get P [] i x all is = absurd (let clash : None ≡ Some x = is in cc)
all_get P (y ∷ xs) zero x all is = subst P (let same : Some y ≡ Some x = is in cc) all.0
all_get P (y ∷ xs) (suc i) x all is = all_get P xs i x all.1 is

-- what holds of both parts holds of the whole
pub all_join : {X : Type 0} (P : X → Type 0) (xs ys : List X) → AllByRecursion P xs → AllByRecursion P ys → AllByRecursion P (xs ++ ys)
all_join P [] ys p q = q
all_join P (x ∷ xs) ys p q = (p.0, all_join P xs ys p.1 q)

-- what holds of the elements of each list holds of those of all, and back
pub all_flat : {X Y : Type 0} (P : Y → Type 0) (f : X → List Y) (xs : List X) → AllByRecursion (λ x. AllByRecursion P (f x)) xs →
    AllByRecursion P (flat_map f xs)
all_flat P f [] all = tt
all_flat P f (x ∷ xs) all = all_join P (f x) (flat_map f xs) all.0 (all_flat P f xs all.1)

pub each_flat : {X Y : Type 0} (P : Y → Type 0) (f : X → List Y) (xs : List X) → AllByRecursion P (flat_map f xs) →
    AllByRecursion (λ x. AllByRecursion P (f x)) xs
each_flat P f [] all = tt
each_flat P f (x ∷ xs) all = (all_front P (f x) (flat_map f xs) all, each_flat P f xs (all_back P (f x) (flat_map f xs) all))

-- lists that are alike for each element are alike together
pub flat_same : {X Y : Type 0} (f g : X → List Y) (xs : List X) → AllByRecursion (λ x. f x ≡ g x) xs → flat_map f xs ≡ flat_map g xs
flat_same f g [] same = refl
flat_same f g (x ∷ xs) same = ap (λ ys. ys ++ flat_map f xs) same.0 ∙ ap (λ ys. g x ++ ys) (flat_same f g xs same.1)

-- elements that carry a fact of themselves
pub all_held : {X : Type 0} (P : X → Type 0) (held : List ((x : X) × P x)) → AllByRecursion P (map (λ e. e.0) held)
all_held P [] = tt
all_held P (e ∷ held) = (e.1, all_held P held)

-- no element passes a test where each fails, and back
pub each_fails : {X : Type 0} (test : X → Bool) (xs : List X) → list_any test xs ≡ false → AllByRecursion (λ x. test x ≡ false) xs
each_fails test [] none = tt
each_fails test (x ∷ xs) none = let both = or_parts (test x) (list_any test xs) none in (both.0, each_fails test xs both.1)

pub none_passes : {X : Type 0} (test : X → Bool) (xs : List X) → AllByRecursion (λ x. test x ≡ false) xs → list_any test xs ≡ false
none_passes test [] all = refl
none_passes test (x ∷ xs) all = or_from (test x) (list_any test xs) all.0 (none_passes test xs all.1)

-- tests that are alike at each element are alike together
pub any_same : {X : Type 0} (p q : X → Bool) (xs : List X) → AllByRecursion (λ x. p x ≡ q x) xs → list_any p xs ≡ list_any q xs
any_same p q [] same = refl
any_same p q (x ∷ xs) same = ap (λ (b : Bool). b || list_any p xs) same.0 ∙ ap (λ (b : Bool). q x || b) (any_same p q xs same.1)
