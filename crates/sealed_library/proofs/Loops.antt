-- Lists that are written and read item by item.
use Rattle.std.proofs.Common.{◌≡◌, ℕ, suc, ◌+◌, ◌-◌, ◌<◌, ◌≤◌, List, [], ◌∷◌, ◌++◌, length, map, get_or, take, Result, Ok, Err, refl, sym, ap, subst, ◌∙◌, append_assoc, arith}
use Rattle.std.specs.List.{flat_map}
use Rattle.std.proofs.lemmas.List.{append-nil, length-append, take_more, take_all, get_or-map, length-map, map_push}
use Rattle.std.proofs.lemmas.List.Elements.{All-nil, All-push}
use Rattle.std.proofs.lemmas.List.Concat.{flat_map-append}
use Rattle.sealed_library.specs.declared.fault.FormatFault.{FormatFault}
use Rattle.sealed_library.specs.declared.fault.Unread.{Unread}
use Rattle.sealed_library.specs.declared.fault.Unread.TheVariants as unread
use Rattle.sealed_library.specs.Fields.{◌>>=◌, Field, items_at, repeated}
use Rattle.sealed_library.specs.code.Writing.{Writes}
use Rattle.sealed_library.specs.code.Reading.{Fails}

-- no item yet
pub writes_none : {X : Type 0} (f : Field X) (text : List ℕ) → Writes (repeated f 0) text text []
writes_none f text = record { text = sym (append-nil text); fits = (refl, All-nil f.Fits) }

-- an item more
pub writes_more : {X : Type 0} (f : Field X) (xs : List X) (k : ℕ) (d : X) (old mid new : List ℕ) → k < length xs
    → Writes (repeated f k) old mid (take k xs) → Writes f mid new (get_or xs k d) → Writes (repeated f (k + 1)) old new (take (k + 1) xs)
writes_more f xs k d old mid new inside before one =
    let more : take (k + 1) xs ≡ take k xs ++ get_or xs k d ∷ [] = take_more xs k d inside in
    subst (Writes (repeated f (k + 1)) old new) (sym more) (record {
      text = one.text ∙ ap (λ t. t ++ f.spell (get_or xs k d)) before.text
          ∙ append_assoc old (flat_map f.spell (take k xs)) (f.spell (get_or xs k d))
          ∙ ap (λ t. old ++ (flat_map f.spell (take k xs) ++ t)) (sym (append-nil (f.spell (get_or xs k d))))
          ∙ ap (λ t. old ++ t) (sym (flat_map-append f.spell (take k xs) (get_or xs k d ∷ [])));
      fits = (
        (let size : length (take k xs ++ get_or xs k d ∷ []) ≡ k + 1 = omega (arith, length-append (take k xs) (get_or xs k d ∷ []), before.fits.0) in size),
        All-push f.Fits (take k xs) (get_or xs k d) before.fits.1 one.fits,
      );
    })

-- all items
pub writes_all : {X : Type 0} (f : Field X) (xs : List X) (k : ℕ) (old new : List ℕ) → length xs ≤ k → Writes (repeated f k) old new (take k xs)
    → Writes (repeated f (length xs)) old new xs
writes_all f xs k old new past written =
    let all : take k xs ≡ xs = take_all k xs past in
    let size : k ≡ length xs = sym written.fits.0 ∙ ap length all in
    subst (λ n. Writes (repeated f n) old new xs) size (subst (Writes (repeated f k) old new) all written)

-- an item more of a list that is seen otherwise
pub writes_more_seen : {X Y : Type 0} (f : Field Y) (view : X → Y) (xs : List X) (k : ℕ) (d : X) (old mid new : List ℕ) → k < length xs
    → Writes (repeated f k) old mid (take k (map view xs)) → Writes f mid new (view (get_or xs k d))
    → Writes (repeated f (k + 1)) old new (take (k + 1) (map view xs))
writes_more_seen f view xs k d old mid new inside before one =
    writes_more f (map view xs) k (view d) old mid new (omega (arith, length-map xs view)) before
    (subst (Writes f mid new) (sym (get_or-map view xs k d (view d) inside)) one)

pub writes_all_seen : {X Y : Type 0} (f : Field Y) (view : X → Y) (xs : List X) (k : ℕ) (old new : List ℕ) → length xs ≤ k
    → Writes (repeated f k) old new (take k (map view xs)) → Writes (repeated f (length xs)) old new (map view xs)
writes_all_seen f view xs k old new past written =
    subst (λ n. Writes (repeated f n) old new (map view xs)) (length-map xs view)
    (writes_all f (map view xs) k old new (omega (arith, length-map xs view)) written)

-- ---- reading

-- what was read before, and what is still read
abbrev pub with_front : {X : Type 0} → List X → Result (List X × List ℕ) FormatFault → Result (List X × List ℕ) FormatFault
with_front front read = read >>= λ x. Ok (front ++ x.0, x.1)

regroup : {X : Type 0} (front : List X) (x : X) (read : Result (List X × List ℕ) FormatFault)
    → with_front front (read >>= λ y. Ok (x ∷ y.0, y.1)) ≡ with_front (front ++ x ∷ []) read
regroup front x (Ok y) = ap (λ xs. Ok (xs, y.1)) (sym (append_assoc front (x ∷ []) y.0))
regroup front x (Err e) = refl

-- an item more
pub goes_on : {X : Type 0} (f : Field X) (front : List X) (count i : ℕ) (bytes : List ℕ) (x : X) (behind : List ℕ)
    (all : Result (List X × List ℕ) FormatFault) → i < count → f.read bytes ≡ Ok (x, behind)
    → with_front front (items_at f.read (count - i) bytes) ≡ all → with_front (front ++ x ∷ []) (items_at f.read (count - (i + 1)) behind) ≡ all
unfolding items_at
goes_on f front count i bytes x behind all below read so_far =
    let more : count - i ≡ suc (count - (i + 1)) = omega arith in
    let one : with_front front (items_at f.read (count - i) bytes) ≡ with_front (front ++ x ∷ []) (items_at f.read (count - (i + 1)) behind) =
    rw (more, read) (regroup front x (items_at f.read (count - (i + 1)) behind)) in
    sym one ∙ so_far

-- the same where items are seen otherwise
pub goes_on_seen : {X Y : Type 0} (f : Field Y) (view : X → Y) (front : List X) (count i : ℕ) (bytes : List ℕ) (x : X) (behind : List ℕ)
    (all : Result (List Y × List ℕ) FormatFault) → i < count → f.read bytes ≡ Ok (view x, behind)
    → with_front (map view front) (items_at f.read (count - i) bytes) ≡ all
    → with_front (map view (front ++ x ∷ [])) (items_at f.read (count - (i + 1)) behind) ≡ all
goes_on_seen f view front count i bytes x behind all below read so_far =
    ap (λ xs. with_front xs (items_at f.read (count - (i + 1)) behind)) (map_push view front x)
    ∙ goes_on f (map view front) count i bytes (view x) behind all below read so_far

-- the item is not there
pub ends : {X : Type 0} (e : Unread) (f : Field X) (front : List X) (count i : ℕ) (bytes : List ℕ)
    (all : Result (List X × List ℕ) FormatFault) → i < count → Fails e (f.read bytes)
    → with_front front (items_at f.read (count - i) bytes) ≡ all → Fails e all
unfolding items_at
ends unread.Memory f front count i bytes all below read so_far = tt
ends (unread.Refused e) f front count i bytes all below read so_far =
    let more : count - i ≡ suc (count - (i + 1)) = omega arith in
    let one : with_front front (items_at f.read (count - i) bytes) ≡ Err e = rw (more, read) refl in
    sym so_far ∙ one

-- all items were read
pub is_done : {X : Type 0} (f : Field X) (front : List X) (count i : ℕ) (bytes : List ℕ)
    (all : Result (List X × List ℕ) FormatFault) → count ≤ i
    → with_front front (items_at f.read (count - i) bytes) ≡ all → all ≡ Ok (front, bytes)
unfolding items_at
is_done f front count i bytes all past so_far =
    let none : count - i ≡ 0 = omega arith in
    let one : with_front front (items_at f.read (count - i) bytes) ≡ Ok (front, bytes) = rw none (ap (λ xs. Ok (xs, bytes)) (append-nil front)) in
    sym so_far ∙ one
