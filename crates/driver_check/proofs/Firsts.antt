-- The first of refusals: of two lists, and of those that items of a list have.
use Rattle.std.proofs.Common.{◌≡◌, ℕ, suc, ◌<◌, ◌≤◌, ◌+◌, List, [], ◌∷◌, ◌++◌, length, drop, get_or, sym, ◌∙◌, ap, subst, add-one, drop-cons}
use Rattle.std.specs.Prelude.{None, Some}
use Rattle.std.specs.List.{flat_map}
use Rattle.std.proofs.lemmas.List.{drop_all}
use Rattle.sv_base.specs.declared.refusal.Refusal.{Refusal}
use Rattle.sv_base.specs.declared.fault.Fault.{Fault}
use Rattle.sv_base.specs.declared.fault.Fault.TheVariants.{Refused, NoMemory}
use Rattle.driver_check.specs.Refused.{IsFirst}

-- what is first of a list is so with others behind it
pub first_here : (xs ys : List Refusal) (fault : Fault) → IsFirst xs fault → IsFirst (xs ++ ys) fault
first_here xs ys NoMemory first = tt
first_here [] ys (Refused r) first = absurd (let clash : None ≡ Some r = first in cc)
first_here (x ∷ xs) ys (Refused r) first = first

-- where nothing is refused before, the first of the rest is the first
pub first_there : (xs ys : List Refusal) (fault : Fault) → xs ≡ [] → IsFirst ys fault → IsFirst (xs ++ ys) fault
first_there xs ys fault none first = subst (λ zs. IsFirst (zs ++ ys) fault) (sym none) first

pub none_both : (xs ys : List Refusal) → xs ≡ [] → ys ≡ [] → (xs ++ ys) ≡ []
none_both xs ys p q = ap (λ zs. zs ++ ys) p ∙ q

pub split_items : {X : Type 0} (xs : List X) (i : ℕ) (a : X) → i < length xs → a ≡ get_or xs i a → drop i xs ≡ a ∷ drop (i + 1) xs
split_items xs i a within is = rw (add-one, drop-cons xs i a within) (ap (λ x. x ∷ drop (suc i) xs) (sym is))

module _ {X : Type 0} (f : X → List Refusal) (xs : List X) (i : ℕ) (all : List Refusal) where
  -- an item refuses nothing, so all that is refused is what those behind it refuse
  pub first_more : (a : X) → i < length xs → a ≡ get_or xs i a → f a ≡ [] → all ≡ flat_map f (drop i xs) → all ≡ flat_map f (drop (i + 1) xs)
  first_more a within is none so_far = so_far ∙ ap (flat_map f) (split_items xs i a within is) ∙ ap (λ zs. zs ++ flat_map f (drop (i + 1) xs)) none

  -- the first that an item refuses, where those before it refuse nothing
  pub first_stop : (a : X) (fault : Fault) → i < length xs → a ≡ get_or xs i a → IsFirst (f a) fault → all ≡ flat_map f (drop i xs) → IsFirst all fault
  first_stop a fault within is first so_far =
      subst (λ zs. IsFirst zs fault) (sym (so_far ∙ ap (flat_map f) (split_items xs i a within is))) (first_here (f a) (flat_map f (drop (i + 1) xs)) fault first)

  pub first_done : length xs ≤ i → all ≡ flat_map f (drop i xs) → all ≡ []
  first_done past so_far = so_far ∙ ap (flat_map f) (drop_all i xs past)
