-- Lists that agree place by place, and units that stand for children.
use Rattle.std.proofs.Common.{◌≡◌, ℕ, zero, suc, ◌<◌, List, [], ◌∷◌, length, get_or, refl, ◌∙◌, ap, arith}
use Rattle.std.specs.List.{AllZip}
use Rattle.code_isa.specs.declared.machine.Kid.{Kid}
use Rattle.code_isa.specs.declared.machine.Machine.{Machine}
use Rattle.linked_units.specs.Units.{Units, HasCode, StandsFor}
use Rattle.linked_units.proofs.Places.{one_code}

pub same_lists : {A : Type 0} (xs ys : List A) → length xs ≡ length ys → ((i : ℕ) (d : A) → i < length xs → get_or xs i d ≡ get_or ys i d) → xs ≡ ys
same_lists [] [] e h = refl
same_lists [] (y ∷ ys) e h = absurd (omega arith)
same_lists (x ∷ xs) [] e h = absurd (omega arith)
same_lists (x ∷ xs) (y ∷ ys) e h =
    let first : x ≡ y = h zero x (omega arith) in
    let others : xs ≡ ys = same_lists xs ys (omega arith) (λ i d inside. h (suc i) d (omega arith)) in
    cc

pub zip_length : {A B : Type 0} (R : A → B → Type 0) (xs : List A) (ys : List B) → AllZip R xs ys → length xs ≡ length ys
zip_length R [] [] h = refl
zip_length R [] (y ∷ ys) h = absurd h
zip_length R (x ∷ xs) [] h = absurd h
zip_length R (x ∷ xs) (y ∷ ys) h = let e = zip_length R xs ys h.1 in omega (arith, e)

pub zip_at : {A B : Type 0} (R : A → B → Type 0) (xs : List A) (ys : List B) (i : ℕ) (d : A) (e : B) → AllZip R xs ys → i < length xs
    → R (get_or xs i d) (get_or ys i e)
zip_at R [] ys i d e h inside = absurd (omega arith)
zip_at R (x ∷ xs) [] i d e h inside = absurd h
zip_at R (x ∷ xs) (y ∷ ys) zero d e h inside = h.0
zip_at R (x ∷ xs) (y ∷ ys) (suc i) d e h inside = zip_at R xs ys i d e h.1 (omega arith)

pub zip_each : {A B : Type 0} (R : A → B → Type 0) (xs : List A) (ys : List B) → length xs ≡ length ys
    → ((i : ℕ) (d : A) (e : B) → i < length xs → R (get_or xs i d) (get_or ys i e)) → AllZip R xs ys
zip_each R [] [] e h = tt
zip_each R [] (y ∷ ys) e h = absurd (omega arith)
zip_each R (x ∷ xs) [] e h = absurd (omega arith)
zip_each R (x ∷ xs) (y ∷ ys) e h = (h zero x y (omega arith), zip_each R xs ys (omega arith) (λ i d f inside. h (suc i) d f (omega arith)))

pub stands : (units : Units) (kid : ℕ) (child : Kid) (m : Machine) → HasCode units kid m → m.face ≡ child.face → m.summary ≡ child.summary
    → StandsFor units kid child
stands units kid child m is face summary = record { code = m; is = is; face = face; summary = summary }

pub face_stands : (units : Units) (kid : ℕ) (child : Kid) (m : Machine) → HasCode units kid m → StandsFor units kid child → m.face ≡ child.face
face_stands units kid child m is s = ap (λ (k : Machine). k.face) (one_code units kid m s.code is s.is) ∙ s.face

pub summary_stands : (units : Units) (kid : ℕ) (child : Kid) (m : Machine) → HasCode units kid m → StandsFor units kid child → m.summary ≡ child.summary
summary_stands units kid child m is s = ap (λ (k : Machine). k.summary) (one_code units kid m s.code is s.is) ∙ s.summary
