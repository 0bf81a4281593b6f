-- lists of bytes, cut where a class of bytes ends
use Rattle.std.proofs.Common.{◌≡◌, ℕ, zero, suc, ◌<◌, Bool, true, false, List, [], ◌∷◌, ◌++◌, length, get_or, take, drop, refl, sym, subst, arith}
use Rattle.sv_lexer.specs.Bytes.{Each, Stops}

pub Each-append : (p : ℕ → Bool) (xs ys : List ℕ) → Each p (xs ++ ys) → Each p xs × Each p ys
Each-append p [] ys h = (tt, h)
Each-append p (x ∷ xs) ys h = let r : Each p xs × Each p ys = Each-append p xs ys h.1 in ((h.0, r.0), r.1)

pub Each-join : (p : ℕ → Bool) (xs ys : List ℕ) → Each p xs → Each p ys → Each p (xs ++ ys)
Each-join p [] ys h k = k
Each-join p (x ∷ xs) ys h k = (h.0, Each-join p xs ys h.1 k)

-- a byte that passes and one that doesn't are not one
pub clash : (b : Bool) → b ≡ true → b ≡ false → ⊥
clash b h k = cc

-- one more byte of a run
pub Each_more : (p : ℕ → Bool) (xs : List ℕ) (n : ℕ) → n < length xs → Each p (take n xs) → p (get_or xs n 0) ≡ true → Each p (take (suc n) xs)
Each_more p [] n lt h k = absurd (omega arith)
Each_more p (x ∷ xs) zero lt h k = (k, tt)
Each_more p (x ∷ xs) (suc n) lt h k = (h.0, Each_more p xs n (omega arith) h.1 k)

-- where a run stops
pub Stops_at : (p : ℕ → Bool) (xs : List ℕ) (n : ℕ) → (n < length xs → p (get_or xs n 0) ≡ false) → Stops p (drop n xs)
Stops_at p [] zero h = tt
Stops_at p [] (suc n) h = tt
Stops_at p (x ∷ xs) zero h = h (omega arith)
Stops_at p (x ∷ xs) (suc n) h = Stops_at p xs n (λ lt. h (omega arith))

-- a run doesn't go on past where it stops
pub stops_here : (p : ℕ → Bool) (rest more after : List ℕ) → rest ≡ more ++ after → Stops p rest → Each p more → more ≡ []
stops_here p rest [] after e s h = refl
stops_here p rest (m ∷ more) after e s h = absurd (clash (p m) h.0 (subst (Stops p) e s))

-- the front of what a run stops before
pub Stops-front : (p : ℕ → Bool) (xs ys : List ℕ) → Stops p (xs ++ ys) → Stops p xs
Stops-front p [] ys s = tt
Stops-front p (x ∷ xs) ys s = s

-- two cuts of one text, each where its run stops, are one
pub runs_agree : (p : ℕ → Bool) (a b x y : List ℕ) → a ++ x ≡ b ++ y → Each p a → Each p b → Stops p x → Stops p y → (a ≡ b) × (x ≡ y)
runs_agree p [] [] x y e ha hb sx sy = (refl, e)
runs_agree p [] (b ∷ bs) x y e ha hb sx sy = absurd (clash (p b) hb.0 (subst (Stops p) e sx))
runs_agree p (a ∷ as') [] x y e ha hb sx sy = absurd (clash (p a) ha.0 (subst (Stops p) (sym e) sy))
runs_agree p (a ∷ as') (b ∷ bs) x y e ha hb sx sy =
    let head : a ≡ b = cc in
    let tail : as' ++ x ≡ bs ++ y = cc in
    let r : (as' ≡ bs) × (x ≡ y) = runs_agree p as' bs x y tail ha.1 hb.1 sx sy in
    (cc, r.1)

-- the parts of equal lists
pub head_eq : {a b : ℕ} {xs ys : List ℕ} → a ∷ xs ≡ b ∷ ys → a ≡ b
head_eq e = cc

pub tail_eq : {a b : ℕ} {xs ys : List ℕ} → a ∷ xs ≡ b ∷ ys → xs ≡ ys
tail_eq e = cc
