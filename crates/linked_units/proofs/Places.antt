-- Units by their numbers.
use Rattle.std.proofs.Common.{◌≡◌, ℕ, zero, suc, ◌<◌, List, [], ◌∷◌, length, get_or, Option, Some, None, refl, sym, ◌∙◌, ap, subst, arith}
use Rattle.std.specs.Prelude.{slice_get, option_map, unwrap_or, All}
use Rattle.std.specs.List.{AllZip, AllByRecursion}
use Rattle.code_isa.specs.declared.machine.Machine.{Machine}
use Rattle.linked_units.specs.declared.unit.Unit as declared
use Rattle.linked_units.specs.Units.{Units, HasCode, kids_of, AreJoined, StandsFor}

pub code_is : (units : Units) (n : ℕ) (u : declared.Unit) → slice_get units n ≡ Some u → HasCode units n u.code
code_is units n u is = ap (option_map (λ (x : declared.Unit). x.code)) is

pub kids_are : (units : Units) (n : ℕ) (u : declared.Unit) → slice_get units n ≡ Some u → kids_of units n ≡ u.kids
kids_are units n u is = ap (λ (o : Option declared.Unit). unwrap_or (option_map (λ (x : declared.Unit). x.kids) o) []) is

pub one_code : (units : Units) (n : ℕ) (m k : Machine) → HasCode units n m → HasCode units n k → m ≡ k
one_code units n m k a b =
    let e : Some m ≡ Some k = sym a ∙ b in
    cc

-- of two lists that agree place by place in a fact with two parts, the first list has the first part
pub all_first : {A B : Type 0} (P : A → Type 0) (Q : A → B → Type 0) (xs : List A) (ys : List B)
    → AllZip (λ x y. P x × Q x y) xs ys → (k : ℕ) (d : A) → k < length xs → P (get_or xs k d)
all_first P Q [] ys h k d inside = absurd (omega arith)
all_first P Q (x ∷ xs) [] h k d inside = absurd h
all_first P Q (x ∷ xs) (y ∷ ys) h zero d inside = h.0.0
all_first P Q (x ∷ xs) (y ∷ ys) h (suc k) d inside = all_first P Q xs ys h.1 k d (omega arith)

pub each_of_all : {A : Type 0} (P : A → Type 0) (xs : List A) → All P xs → AllByRecursion P xs
each_of_all P [] h = tt
each_of_all P (x ∷ xs) h = (h zero x (omega arith), each_of_all P xs (λ k d inside. h (suc k) d (omega arith)))

-- a number below the count is that of a unit
pub unit_at : (units : Units) (n : ℕ) → n < length units → (u : declared.Unit) × (slice_get units n ≡ Some u)
unit_at [] n inside = absurd (omega arith)
unit_at (u ∷ units) zero inside = (u, refl)
unit_at (u ∷ units) (suc n) inside = unit_at units n (omega arith)

pub code_within : (units : Units) (n : ℕ) (m : Machine) → HasCode units n m → n < length units
code_within [] n m h = absurd (none h)
  where
    none : None ≡ Some m → ⊥
    none e = cc
code_within (u ∷ units) zero m h = omega arith
code_within (u ∷ units) (suc n) m h = let below = code_within units n m h in omega (arith, below)

-- the kids of a unit have lower numbers
pub kids_lower : (units : Units) (n : ℕ) (u : declared.Unit) → AreJoined units → slice_get units n ≡ Some u → All (λ kid. kid < n) u.kids
kids_lower units n u joined is =
    let h = joined n u.code (code_is units n u is) in
    subst (λ kids. All (λ kid. kid < n) kids) (kids_are units n u is)
    (all_first (λ kid. kid < n) (λ kid child. StandsFor units kid child) (kids_of units n) u.code.kids h)
