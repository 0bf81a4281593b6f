-- bytes that the outside holds, where it tells them: `None` tells nothing
use Rattle.std.specs.Prelude.{◌≡◌, ℕ, ◌<◌, ◌≤◌, List, [], ◌++◌, length, take, drop, min, ⊤, Option, None, Some}
use Rattle.std.proofs.Common.{refl, ap, sym, subst, ◌∙◌, ◌+◌, append_assoc, arith}
use Rattle.std.proofs.lemmas.List.{append-nil, take-append-drop}
use Rattle.std.proofs.lemmas.Grind.{common_steps}
use Rattle.std.proofs.Math.Seq.{take-append-add, take-length}

-- exactly these bytes were added at the end; what wasn't told stays untold
abbrev pub Added : Option (List ℕ) → Option (List ℕ) → List ℕ → Type 0
Added None after bytes = after ≡ None
Added (Some old) after bytes = after ≡ Some (old ++ bytes)

-- a front of these bytes was added at the end, all of them or none being a front too
abbrev pub AddedFront : Option (List ℕ) → Option (List ℕ) → List ℕ → Type 0
AddedFront before after bytes = (n : ℕ) × Added before after (take n bytes)

-- a front of these bytes without their last was added at the end
abbrev pub AddedShort : Option (List ℕ) → Option (List ℕ) → List ℕ → Type 0
AddedShort before after bytes = (n : ℕ) × (n < length bytes) × Added before after (take n bytes)

-- adding nothing leaves what is told
pub added_nothing : (told : Option (List ℕ)) → Added told told []
added_nothing None = refl
added_nothing (Some old) = ap Some (sym (append-nil old))

-- two additions in a row are one
pub added_both : (a b c : Option (List ℕ)) (xs ys : List ℕ) → Added a b xs → Added b c ys → Added a c (xs ++ ys)
added_both None b c xs ys p q = subst (λ m. Added m c ys) p q
added_both (Some old) b c xs ys p q =
    let r : c ≡ Some ((old ++ xs) ++ ys) = subst (λ m. Added m c ys) p q in
    r ∙ ap Some (append_assoc old xs ys)

-- the whole is a front
pub added_front : (a b : Option (List ℕ)) (xs : List ℕ) → Added a b xs → AddedFront a b xs
added_front a b xs p = (length xs, subst (λ (ys : List ℕ). Added a b ys) (sym (take-length xs)) p)

-- some bytes, and then a front of others, are a front of both
pub added_front_after : (a b c : Option (List ℕ)) (xs ys : List ℕ) → Added a b xs → AddedFront b c ys → AddedFront a c (xs ++ ys)
added_front_after a b c xs ys p (n, q) =
    (length xs + n, subst (λ (zs : List ℕ). Added a c zs) (sym (take-append-add xs ys n)) (added_both a b c xs (take n ys) p q))

take_of_more : (n : ℕ) (xs ys : List ℕ) → take (min n (length xs)) (xs ++ ys) ≡ take n xs
take_of_more n xs ys = grind (arith, common_steps)

-- a front is a front of more bytes too
pub added_front_of_more : (a b : Option (List ℕ)) (xs ys : List ℕ) → AddedFront a b xs → AddedFront a b (xs ++ ys)
added_front_of_more a b xs ys (n, p) =
    (min n (length xs), subst (λ (zs : List ℕ). Added a b zs) (sym (take_of_more n xs ys)) p)

-- the first n bytes of `rest` stand at the front of the buffer; none do only where `rest` is at its end or the buffer has no room
pub record IsNext (rest buffer : List ℕ) (n : ℕ) : Type 0 where
  pub within : n ≤ length rest
  pub front : take n buffer ≡ take n rest
  pub at_end : 0 < length buffer → n ≡ 0 → rest ≡ []

-- the next n of the bytes left were put at the front of the buffer and are no longer left
abbrev pub TookNext : Option (List ℕ) → Option (List ℕ) → List ℕ → ℕ → Type 0
TookNext None after buffer n = after ≡ None
TookNext (Some rest) after buffer n = IsNext rest buffer n × (after ≡ Some (drop n rest))

-- exactly these bytes were taken from the front of those left; what wasn't told stays untold
abbrev pub Took : Option (List ℕ) → Option (List ℕ) → List ℕ → Type 0
Took None after taken = after ≡ None
Took (Some left) after taken = (rest : List ℕ) × (left ≡ taken ++ rest) × (after ≡ Some rest)

-- no byte is left, where that is told
abbrev pub IsAtEnd : Option (List ℕ) → Type 0
IsAtEnd None = ⊤
IsAtEnd (Some left) = left ≡ []

-- taking nothing leaves what is told
pub took_nothing : (told : Option (List ℕ)) → Took told told []
took_nothing None = refl
took_nothing (Some left) = (left, refl, refl)

-- bytes that are taken, and then others, are taken together
pub took_both : (a b c : Option (List ℕ)) (xs ys : List ℕ) → Took a b xs → Took b c ys → Took a c (xs ++ ys)
took_both None b c xs ys p q = subst (λ m. Took m c ys) p q
took_both (Some left) b c xs ys (rest, is, p) q =
    let more : Took (Some rest) c ys = subst (λ m. Took m c ys) p q in
    (more.0, is ∙ ap (λ (zs : List ℕ). xs ++ zs) more.1 ∙ sym (append_assoc xs ys more.0), more.2)

-- what a read has put at the front of the buffer was taken
pub took_next : (before after : Option (List ℕ)) (buffer : List ℕ) (n : ℕ) → TookNext before after buffer n → Took before after (take n buffer)
took_next None after buffer n p = p
took_next (Some left) after buffer n (next, p) = (drop n left, sym (ap (λ (xs : List ℕ). xs ++ drop n left) next.front ∙ take-append-drop n left), p)

-- a read into a buffer with room that answers no bytes has come to the end
pub took_end : (before after : Option (List ℕ)) (buffer : List ℕ) → 0 < length buffer → TookNext before after buffer 0 → IsAtEnd after
took_end None after buffer some p = subst IsAtEnd (sym p) tt
took_end (Some left) after buffer some (next, p) = subst IsAtEnd (sym p) (next.at_end some refl)
