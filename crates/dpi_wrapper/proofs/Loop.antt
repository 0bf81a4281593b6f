-- Reading items one after the other, as a loop does.
use Rattle.std.proofs.Common.{◌≡◌, ℕ, suc, ◌-◌, ◌+◌, ◌≤◌, ◌<◌, List, [], ◌∷◌, ◌++◌, Option, Some, None, refl, sym, ap, ◌∙◌, append_assoc, arith}
use Rattle.std.proofs.lemmas.List.{append-nil}
use Rattle.dpi_wrapper.specs.declared.unread.Unread.{Unread}
use Rattle.dpi_wrapper.specs.declared.unread.Unread.TheVariants as unread
use Rattle.dpi_wrapper.specs.code.Reading.{◌>>=◌, Fails, behind, items_at}

-- what was read before, and what is still read
abbrev pub with_front : {X : Type 0} → List X → Option (List X × List ℕ) → Option (List X × List ℕ)
with_front xs read = read >>= λ x. Some (xs ++ x.0, x.1)

regroup : {X : Type 0} (xs : List X) (x : X) (read : Option (List X × List ℕ))
    → with_front xs (read >>= λ y. Some (x ∷ y.0, y.1)) ≡ with_front (xs ++ x ∷ []) read
regroup xs x (Some y) = ap (λ ys. Some (ys, y.1)) (sym (append_assoc xs (x ∷ []) y.0))
regroup xs x None = refl

-- one item more
pub goes_on : {X : Type 0} (front : List ℕ) (item : List ℕ → Option (X × List ℕ)) (xs : List X) (limit i : ℕ) (bytes start : List ℕ) (x : X) (end : List ℕ)
    (all : Option (List X × List ℕ)) → i < limit → behind front bytes ≡ Some start → item start ≡ Some (x, end)
    → with_front xs (items_at front item (limit - i) bytes) ≡ all → with_front (xs ++ x ∷ []) (items_at front item (limit - (i + 1)) end) ≡ all
unfolding items_at
goes_on front item xs limit i bytes start x end all below found read so_far =
    let more : limit - i ≡ suc (limit - (i + 1)) = omega arith in
    let one : with_front xs (items_at front item (limit - i) bytes) ≡ with_front (xs ++ x ∷ []) (items_at front item (limit - (i + 1)) end) =
    rw (more, found, read) (regroup xs x (items_at front item (limit - (i + 1)) end)) in
    sym one ∙ so_far

-- the front is not there
pub ends : {X : Type 0} (front : List ℕ) (item : List ℕ → Option (X × List ℕ)) (xs : List X) (limit i : ℕ) (bytes : List ℕ)
    (all : Option (List X × List ℕ)) → i < limit → behind front bytes ≡ None
    → with_front xs (items_at front item (limit - i) bytes) ≡ all → all ≡ Some (xs, bytes)
unfolding items_at
ends front item xs limit i bytes all below none so_far =
    let more : limit - i ≡ suc (limit - (i + 1)) = omega arith in
    let one : with_front xs (items_at front item (limit - i) bytes) ≡ Some (xs, bytes) = rw (more, none) (ap (λ ys. Some (ys, bytes)) (append-nil xs)) in
    sym so_far ∙ one

-- the item is not there
pub fails : {X : Type 0} (e : Unread) (front : List ℕ) (item : List ℕ → Option (X × List ℕ)) (xs : List X) (limit i : ℕ) (bytes start : List ℕ)
    (all : Option (List X × List ℕ)) → i < limit → behind front bytes ≡ Some start → Fails e (item start)
    → with_front xs (items_at front item (limit - i) bytes) ≡ all → Fails e all
unfolding items_at
fails unread.NoMemory front item xs limit i bytes start all below found read so_far = tt
fails unread.NoFace front item xs limit i bytes start all below found read so_far =
    let more : limit - i ≡ suc (limit - (i + 1)) = omega arith in
    let one : with_front xs (items_at front item (limit - i) bytes) ≡ None = rw (more, found, read) refl in
    sym so_far ∙ one

-- the limit is reached
pub is_done : {X : Type 0} (front : List ℕ) (item : List ℕ → Option (X × List ℕ)) (xs : List X) (limit i : ℕ) (bytes : List ℕ)
    (all : Option (List X × List ℕ)) → limit ≤ i
    → with_front xs (items_at front item (limit - i) bytes) ≡ all → all ≡ Some (xs, bytes)
unfolding items_at
is_done front item xs limit i bytes all past so_far =
    let none : limit - i ≡ 0 = omega arith in
    let one : with_front xs (items_at front item (limit - i) bytes) ≡ Some (xs, bytes) = rw none (ap (λ ys. Some (ys, bytes)) (append-nil xs)) in
    sym so_far ∙ one
