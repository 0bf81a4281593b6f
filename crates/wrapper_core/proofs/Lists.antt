-- Lists that are written from a position on, and lists made of pieces.
use Rattle.std.proofs.Common.{◌≡◌, ℕ, zero, suc, ◌+◌, ◌-◌, ◌<◌, ◌≤◌, List, [], ◌∷◌, ◌++◌, length, take, drop, get_or, set, refl, sym, ◌∙◌, ap, arith, append_assoc}
use Rattle.std.specs.Prelude.{slice_get, Some}
use Rattle.std.specs.List.{flat_map}
use Rattle.std.proofs.lemmas.List.{take_more_set, take_more, length-take-le, take-append-le, take-take, drop-drop, drop_at, drop-append-le, drop-take, drop_more, set_at, length-append, length-drop, take_at, append-nil, take-append-drop}
use Rattle.std.proofs.Math.Seq.{take-append-add, drop-append-add}
use Rattle.std.proofs.lemmas.Option.{none-some, same_Some}
use Rattle.wrapper_core.specs.code.Blocks.{placed}

-- one item more of a list is written
pub filled_more : {X : Type 0} (xs ys : List X) (k : ℕ) (x d : X) → k < length xs → k < length ys → take k xs ≡ take k ys → get_or ys k d ≡ x → take (k + 1) (set xs k x) ≡ take (k + 1) ys
filled_more xs ys k x d inside within same is =
    take_more_set xs k x inside ∙ ap (λ zs. zs ++ x ∷ []) same ∙ ap (λ y. take k ys ++ y ∷ []) (sym is) ∙ sym (take_more ys k d within)

-- ---- placed

pub placed_none : (xs : List ℕ) (first : ℕ) → placed xs first [] ≡ xs
placed_none xs first =
    ap (λ zs. zs ++ drop (first + 0) xs) (append-nil (take first xs)) ∙ ap (λ n. take first xs ++ drop n xs) (let e : first + 0 ≡ first = omega arith in e) ∙ take-append-drop first xs

pub front_size : (xs ys : List ℕ) (first : ℕ) → first ≤ length xs → length (take first xs ++ ys) ≡ first + length ys
front_size xs ys first low = length-append (take first xs) ys ∙ ap (λ n. n + length ys) (length-take-le first xs low)

pub placed_more : (xs : List ℕ) (first : ℕ) (ys : List ℕ) (y : ℕ) → first + length ys < length xs → set (placed xs first ys) (first + length ys) y ≡ placed xs first (ys ++ y ∷ [])
placed_more xs first ys y inside =
    let n : ℕ = first + length ys in
    let front = take first xs ++ ys in
    ap (λ zs. set (front ++ zs) n y) (drop_more xs n 0 inside)
    ∙ set_at front (get_or xs n 0) (drop (n + 1) xs) y n (front_size xs ys first (omega arith))
    ∙ sym (append_assoc front (y ∷ []) (drop (n + 1) xs))
    ∙ ap (λ zs. zs ++ drop (n + 1) xs) (append_assoc (take first xs) ys (y ∷ []))
    ∙ ap (λ m. (take first xs ++ (ys ++ y ∷ [])) ++ drop m xs) (let e : n + 1 ≡ first + length (ys ++ y ∷ []) = omega (arith, length-append ys (y ∷ [])) in e)

pub placed_size : (xs : List ℕ) (first : ℕ) (ys : List ℕ) → first + length ys ≤ length xs → length (placed xs first ys) ≡ length xs
placed_size xs first ys inside =
    length-append (take first xs ++ ys) (drop (first + length ys) xs)
    ∙ (let e : length (take first xs ++ ys) + length (drop (first + length ys) xs) ≡ length xs = omega (arith, front_size xs ys first (omega arith), length-drop (first + length ys) xs) in e)

pub take_placed : (xs : List ℕ) (n first : ℕ) (ys : List ℕ) → n ≤ first → first ≤ length xs → take n (placed xs first ys) ≡ take n xs
take_placed xs n first ys low inside =
    let rest = drop (first + length ys) xs in
    ap (take n) (append_assoc (take first xs) ys rest)
    ∙ take-append-le n (take first xs) (ys ++ rest) (let e : n ≤ length (take first xs) = omega (arith, length-take-le first xs inside) in e)
    ∙ take-take n first xs low

pub drop_placed : (xs : List ℕ) (n first : ℕ) (ys : List ℕ) → first + length ys ≤ n → first ≤ length xs → drop n (placed xs first ys) ≡ drop n xs
drop_placed xs n first ys past inside =
    let front = take first xs ++ ys in
    let size = front_size xs ys first inside in
    let m : ℕ = n - (first + length ys) in
    let e : n ≡ length front + m = omega (arith, size) in
    ap (λ k. drop k (placed xs first ys)) e
    ∙ drop-append-add front (drop (first + length ys) xs) m
    ∙ drop-drop m (first + length ys) xs
    ∙ ap (λ k. drop k xs) (let back : first + length ys + m ≡ n = omega arith in back)

pub drop_placed_past : (xs : List ℕ) (n o : ℕ) (ys : List ℕ) → n + o ≤ length xs → drop n (placed xs (n + o) ys) ≡ placed (drop n xs) o ys
drop_placed_past xs n o ys inside =
    let front = take (n + o) xs in
    let rest = drop (n + o + length ys) xs in
    ap (drop n) (append_assoc front ys rest)
    ∙ drop-append-le n front (ys ++ rest) (let e : n ≤ length front = omega (arith, length-take-le (n + o) xs inside) in e)
    ∙ ap (λ zs. zs ++ (ys ++ rest)) (drop-take n o xs)
    ∙ sym (append_assoc (take o (drop n xs)) ys rest)
    ∙ ap (λ zs. (take o (drop n xs) ++ ys) ++ zs) (ap (λ k. drop k xs) (let e : n + o + length ys ≡ n + (o + length ys) = omega arith in e) ∙ sym (drop-drop (o + length ys) n xs))

pub placed_middle : (xs : List ℕ) (first : ℕ) (ys : List ℕ) → first ≤ length xs → take (length ys) (drop first (placed xs first ys)) ≡ ys
placed_middle xs first ys inside =
    let rest = drop (first + length ys) xs in
    ap (λ zs. take (length ys) (drop first zs)) (append_assoc (take first xs) ys rest)
    ∙ ap (take (length ys)) (drop_at (take first xs) (ys ++ rest) first (length-take-le first xs inside))
    ∙ take_at ys rest (length ys) refl

-- ---- pieces

placed_after : (p q : List ℕ) (o : ℕ) (ys : List ℕ) → placed (p ++ q) (length p + o) ys ≡ p ++ placed q o ys
placed_after p q o ys =
    ap (λ zs. (zs ++ ys) ++ drop (length p + o + length ys) (p ++ q)) (take-append-add p q o)
    ∙ ap (λ zs. ((p ++ take o q) ++ ys) ++ zs) (ap (λ k. drop k (p ++ q)) (let e : length p + o + length ys ≡ length p + (o + length ys) = omega arith in e) ∙ drop-append-add p q (o + length ys))
    ∙ ap (λ zs. zs ++ drop (o + length ys) q) (append_assoc p (take o q) ys)
    ∙ append_assoc p (take o q ++ ys) (drop (o + length ys) q)

-- one piece of a list is written
pub placed_piece : {X : Type 0} (f : X → List ℕ) (xs : List X) (i : ℕ) (x y : X) → slice_get xs i ≡ Some x → length (f y) ≡ length (f x) → placed (flat_map f xs) (length (flat_map f (take i xs))) (f y) ≡ flat_map f (set xs i y)
placed_piece f [] i x y at size = absurd (none-some x at)
placed_piece f (a ∷ xs) zero x y at size =
    let same : a ≡ x = same_Some a x at in
    ap (λ zs. f y ++ zs) (drop_at (f a) (flat_map f xs) (0 + length (f y)) (ap (λ z. length (f z)) same ∙ (let e : length (f x) ≡ 0 + length (f y) = omega (arith, size) in e)))
placed_piece f (a ∷ xs) (suc i) x y at size =
    ap (λ n. placed (f a ++ flat_map f xs) n (f y)) (length-append (f a) (flat_map f (take i xs)))
    ∙ placed_after (f a) (flat_map f xs) (length (flat_map f (take i xs))) (f y)
    ∙ ap (λ zs. f a ++ zs) (placed_piece f xs i x y at size)

-- one piece of a list is read
pub piece : {X : Type 0} (f : X → List ℕ) (xs : List X) (i : ℕ) (x : X) → slice_get xs i ≡ Some x → take (length (f x)) (drop (length (flat_map f (take i xs))) (flat_map f xs)) ≡ f x
piece f [] i x at = absurd (none-some x at)
piece f (a ∷ xs) zero x at =
    let same : a ≡ x = same_Some a x at in
    take_at (f a) (flat_map f xs) (length (f x)) (ap (λ z. length (f z)) same) ∙ ap f same
piece f (a ∷ xs) (suc i) x at =
    ap (λ n. take (length (f x)) (drop n (f a ++ flat_map f xs))) (length-append (f a) (flat_map f (take i xs)))
    ∙ ap (take (length (f x))) (drop-append-add (f a) (flat_map f xs) (length (flat_map f (take i xs)))) ∙ piece f xs i x at

-- the pieces of two lists that are as long, piece by piece
pub pieces_size : {X Y : Type 0} (f : X → List ℕ) (g : Y → List ℕ) (xs : List X) (ys : List Y) → length ys ≡ length xs → ((i : ℕ) (x : X) (y : Y) → slice_get xs i ≡ Some x → slice_get ys i ≡ Some y → length (g y) ≡ length (f x)) → (n : ℕ) → length (flat_map g (take n ys)) ≡ length (flat_map f (take n xs))
pieces_size f g xs ys each same zero = refl
pieces_size f g [] [] each same (suc n) = refl
pieces_size f g [] (y ∷ ys) each same (suc n) = absurd (let clash : ⊥ = omega (arith, each) in clash)
pieces_size f g (x ∷ xs) [] each same (suc n) = absurd (let clash : ⊥ = omega (arith, each) in clash)
pieces_size f g (x ∷ xs) (y ∷ ys) each same (suc n) =
    length-append (g y) (flat_map g (take n ys))
    ∙ ap (λ k. k + length (flat_map g (take n ys))) (same 0 x y refl refl)
    ∙ ap (λ k. length (f x) + k) (pieces_size f g xs ys (let e : length ys ≡ length xs = omega (arith, each) in e) (λ i a b ai bi. same (suc i) a b ai bi) n)
    ∙ sym (length-append (f x) (flat_map f (take n xs)))
