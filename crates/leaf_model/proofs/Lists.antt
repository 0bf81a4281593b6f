-- Lists that are written from a position on, and pieces of lists.
use Rattle.std.proofs.Common.{◌≡◌, ℕ, ◌+◌, ◌-◌, ◌<◌, ◌≤◌, List, [], ◌∷◌, ◌++◌, length, map, take, drop, get_or, set, refl, sym, ◌∙◌, ap, arith, append_assoc}
use Rattle.std.specs.Prelude.{slice_index}
use Rattle.std.proofs.lemmas.List.{take_more_set, take_more, length-take-le, length-map, take-append-le, take-take, drop-drop, drop_at, drop_more, set_at, map-set, get_or-map, length-append, take_all, take_at, append-nil, take-append-drop}
use Rattle.std.proofs.Math.Seq.{drop-append-add}
use Rattle.bit_ops.specs.declared.value.Bits.{Bits}
use Rattle.code_isa.specs.Tree.{words_at}
use Rattle.leaf_model.specs.Leaf.{placed}
use Rattle.leaf_model.specs.Known.{take_add}

-- two lists that agree as far as both go
pub whole : {X : Type 0} (n : ℕ) (xs ys : List X) → length xs ≡ n → length ys ≡ n → take n xs ≡ take n ys → xs ≡ ys
whole n xs ys a b same =
    sym (take_all n xs (let e : length xs ≤ n = omega (arith, a) in e)) ∙ same ∙ take_all n ys (let e : length ys ≤ n = omega (arith, b) in e)

-- one item more of a list is written
pub filled_more : {X : Type 0} (xs ys : List X) (k : ℕ) (x d : X) → k < length xs → k < length ys → take k xs ≡ take k ys → get_or ys k d ≡ x → take (k + 1) (set xs k x) ≡ take (k + 1) ys
filled_more xs ys k x d inside within same is =
    take_more_set xs k x inside ∙ ap (λ zs. zs ++ x ∷ []) same ∙ ap (λ y. take k ys ++ y ∷ []) (sym is) ∙ sym (take_more ys k d within)

-- one value more is copied from the slot that a list names
pub copied_next : (f : Bits → ℕ) (slots buffer : List Bits) (places : List ℕ) (k : ℕ) (v : Bits) → k < length buffer → k < length places → slice_index places k < length slots → v ≡ get_or slots (slice_index places k) v →
    take k (map f buffer) ≡ take k (words_at (map f slots) places) → take (k + 1) (map f (set buffer k v)) ≡ take (k + 1) (words_at (map f slots) places)
copied_next f slots buffer places k v room inside there is same =
    ap (take (k + 1)) (map-set f buffer k v)
    ∙ filled_more (map f buffer) (words_at (map f slots) places) k (f v) 0 (omega (arith, length-map buffer f)) (omega (arith, inside, length-map places (λ s. slice_index (map f slots) s))) same
    (get_or-map (λ s. slice_index (map f slots) s) places k 0 0 inside ∙ get_or-map f slots (slice_index places k) v 0 there ∙ ap f (sym is))

-- the word or the width of a value that was read
pub read_at : (f : Bits → ℕ) (xs : List Bits) (s : ℕ) (b : Bits) → s < length xs → b ≡ get_or xs s b → slice_index (map f xs) s ≡ f b
read_at f xs s b inside is = get_or-map f xs s b 0 inside ∙ ap f (sym is)

-- ---- placed

pub placed_none : (xs : List ℕ) (first : ℕ) → placed xs first [] ≡ xs
placed_none xs first =
    ap (λ zs. zs ++ drop (first + 0) xs) (append-nil (take first xs)) ∙ ap (λ n. take first xs ++ drop n xs) (let e : first + 0 ≡ first = omega arith in e) ∙ take-append-drop first xs

front_size : (xs ys : List ℕ) (first : ℕ) → first ≤ length xs → length (take first xs ++ ys) ≡ first + length ys
front_size xs ys first low = length-append (take first xs) ys ∙ ap (λ n. n + length ys) (length-take-le first xs low)

placed_more : (xs : List ℕ) (first : ℕ) (ys : List ℕ) (y : ℕ) → first + length ys < length xs → set (placed xs first ys) (first + length ys) y ≡ placed xs first (ys ++ y ∷ [])
placed_more xs first ys y inside =
    let n : ℕ = first + length ys in
    let front = take first xs ++ ys in
    ap (λ zs. set (front ++ zs) n y) (drop_more xs n 0 inside)
    ∙ set_at front (get_or xs n 0) (drop (n + 1) xs) y n (front_size xs ys first (omega arith))
    ∙ sym (append_assoc front (y ∷ []) (drop (n + 1) xs))
    ∙ ap (λ zs. zs ++ drop (n + 1) xs) (append_assoc (take first xs) ys (y ∷ []))
    ∙ ap (λ m. (take first xs ++ (ys ++ y ∷ [])) ++ drop m xs) (let e : n + 1 ≡ first + length (ys ++ y ∷ []) = omega (arith, length-append ys (y ∷ [])) in e)

-- one value more is put
pub put_more : (f : Bits → ℕ) (start now : List Bits) (first k : ℕ) (values : List Bits) (v : Bits) → k < length values → v ≡ get_or values k v → first + length values ≤ length start →
    map f now ≡ placed (map f start) first (take k (map f values)) → map f (set now (first + k) v) ≡ placed (map f start) first (take (k + 1) (map f values))
put_more f start now first k values v inside is low so_far =
    let xs = map f start in
    let ys = map f values in
    let size : length (take k ys) ≡ k = length-take-le k ys (omega (arith, inside, length-map values f)) in
    let more : take (k + 1) ys ≡ take k ys ++ f v ∷ [] = take_more ys k 0 (omega (arith, inside, length-map values f)) ∙ ap (λ n. take k ys ++ n ∷ []) (read_at f values k v inside is) in
    map-set f now (first + k) v ∙ ap (λ gs. set gs (first + k) (f v)) so_far
    ∙ ap (λ n. set (placed xs first (take k ys)) (first + n) (f v)) (sym size)
    ∙ placed_more xs first (take k ys) (f v) (omega (arith, size, inside, low, length-map start f))
    ∙ ap (placed xs first) (sym more)

pub take_placed : (xs : List ℕ) (n first : ℕ) (ys : List ℕ) → n ≤ first → first ≤ length xs → take n (placed xs first ys) ≡ take n xs
take_placed xs n first ys low inside =
    let rest = drop (first + length ys) xs in
    ap (take n) (append_assoc (take first xs) ys rest)
    ∙ take-append-le n (take first xs) (ys ++ rest) (let e : n ≤ length (take first xs) = omega (arith, low, length-take-le first xs inside) in e)
    ∙ take-take n first xs low

pub drop_placed : (xs : List ℕ) (n first : ℕ) (ys : List ℕ) → first + length ys ≤ n → first ≤ length xs → drop n (placed xs first ys) ≡ drop n xs
drop_placed xs n first ys past inside =
    let front = take first xs ++ ys in
    let size = front_size xs ys first inside in
    let m : ℕ = n - (first + length ys) in
    let e : n ≡ length front + m = omega (arith, size, past) in
    ap (λ k. drop k (placed xs first ys)) e
    ∙ drop-append-add front (drop (first + length ys) xs) m
    ∙ drop-drop m (first + length ys) xs
    ∙ ap (λ k. drop k xs) (let back : first + length ys + m ≡ n = omega (arith, past) in back)

pub placed_middle : (xs : List ℕ) (first : ℕ) (ys : List ℕ) → first ≤ length xs → take (length ys) (drop first (placed xs first ys)) ≡ ys
placed_middle xs first ys inside =
    let rest = drop (first + length ys) xs in
    ap (λ zs. take (length ys) (drop first zs)) (append_assoc (take first xs) ys rest)
    ∙ ap (take (length ys)) (drop_at (take first xs) (ys ++ rest) first (length-take-le first xs inside))
    ∙ take_at ys rest (length ys) refl

-- what stands there already is put
pub placed_same : (xs : List ℕ) (first n : ℕ) (ys : List ℕ) → first + n ≤ length xs → length ys ≡ n → ys ≡ take n (drop first xs) → placed xs first ys ≡ xs
placed_same xs first n ys inside size is =
    ap (λ k. take first xs ++ ys ++ drop (first + k) xs) size
    ∙ ap (λ zs. take first xs ++ zs ++ drop (first + n) xs) is
    ∙ ap (λ zs. zs ++ drop (first + n) xs) (take_add xs first n)
    ∙ take-append-drop (first + n) xs

-- ---- pieces

-- the second piece of four
pub middle : (p b q r : List ℕ) (n : ℕ) → length b ≡ n → take n (drop (length p) (p ++ b ++ q ++ r)) ≡ b
middle p b q r n size =
    ap (λ zs. take n (drop (length p) zs)) (ap (λ zs. zs ++ r) (append_assoc p b q) ∙ append_assoc p (b ++ q) r)
    ∙ ap (take n) (drop_at p ((b ++ q) ++ r) (length p) refl)
    ∙ ap (take n) (append_assoc b q r)
    ∙ take_at b (q ++ r) n size

-- the first
pub front : (p b q r : List ℕ) (n : ℕ) → length p ≡ n → take n (p ++ b ++ q ++ r) ≡ p
front p b q r n size = ap (take n) (ap (λ zs. zs ++ r) (append_assoc p b q) ∙ append_assoc p (b ++ q) r) ∙ take_at p ((b ++ q) ++ r) n size
