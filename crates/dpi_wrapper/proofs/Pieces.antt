-- What stands for the ports of a class, port by port.
use Rattle.std.proofs.Common.{◌≡◌, ℕ, suc, ◌+◌, ◌<◌, ◌≤◌, Bool, cond, ltb, inl, inr, List, [], ◌∷◌, ◌++◌, length, drop, get_or, Some, None, refl, sym, ap, ◌∙◌, add-one, append_assoc, arith}
use Rattle.std.specs.Prelude.{codes}
use Rattle.std.specs.List.{flat_map, filter, position, position_or_len}
use Rattle.std.proofs.lemmas.Bool.{cases_Bool, cond-true, cond-false, ltb-true, ltb-false}
use Rattle.std.proofs.lemmas.List.{append-nil, drop_all}
use Rattle.sv_base.specs.declared.face.Port.{Port}
use Rattle.dpi_wrapper.specs.declared.piece.Piece.{Piece}
use Rattle.dpi_wrapper.specs.code.Pieces.{is_for, piece_text, pieces_text, piece_where_for, arguments_text}

-- pieces of the items that pass a test are pieces of all, of which the others have none
flat_map-filter : {X : Type 0} (f : X → List ℕ) (test : X → Bool) (xs : List X) → flat_map (λ x. cond (test x) (f x) []) xs ≡ flat_map f (filter test xs)
flat_map-filter f test [] = refl
flat_map-filter f test (x ∷ xs) =
    elim (cases_Bool (test x)) [
      | inl passes ↦ rw passes (ap (λ rest. f x ++ rest) (flat_map-filter f test xs))
      | inr fails ↦ rw fails (flat_map-filter f test xs)
    ]

pub pieces_where_for : (piece : Piece) (ports : List Port) → flat_map (piece_where_for piece) ports ≡ pieces_text piece ports
pieces_where_for piece ports = flat_map-filter (piece_text piece) (λ p. is_for piece p.class) ports

none_kept : {X : Type 0} (test : X → Bool) (xs : List X) → length xs ≤ position_or_len test xs → filter test xs ≡ []
none_kept test [] past = refl
none_kept test (x ∷ xs) past =
    elim (cases_Bool (test x)) [
      | inl passes ↦
          let first : position_or_len test (x ∷ xs) ≡ 0 = rw passes refl in
          absurd (omega (arith, first, past))
      | inr fails ↦
          let more : position_or_len test (x ∷ xs) ≡ suc (position_or_len test xs) = rw fails (omega arith) in
          rw fails (none_kept test xs (omega (arith, more, past)))
    ]

first_kept : {X : Type 0} (test : X → Bool) (xs : List X) (d : X) → position_or_len test xs < length xs
    → filter test xs ≡ get_or xs (position_or_len test xs) d ∷ filter test (drop (suc (position_or_len test xs)) xs)
first_kept test [] d inside = absurd (omega arith)
first_kept test (x ∷ xs) d inside =
    elim (cases_Bool (test x)) [
      | inl passes ↦ rw passes refl
      | inr fails ↦
          let more : position_or_len test (x ∷ xs) ≡ suc (position_or_len test xs) = rw fails (omega arith) in
          rw (more, fails) (first_kept test xs d (omega (arith, more, inside)))
    ]

-- where no item passes a test, none is kept
pub filter_none : {X : Type 0} (test : X → Bool) (xs : List X) → position test xs ≡ None → filter test xs ≡ []
filter_none test xs none =
    elim (cases_Bool (ltb (position_or_len test xs) (length xs))) [
      | inl inside ↦ absurd (let found : Some (position_or_len test xs) ≡ None = sym (cond-true _ _ _ inside) ∙ none in cc)
      | inr past ↦ none_kept test xs (ltb-false _ _ past)
    ]

-- the first item that passes a test comes first of those that are kept
pub filter_first : {X : Type 0} (test : X → Bool) (xs : List X) (at : ℕ) (d : X) → position test xs ≡ Some at
    → filter test xs ≡ get_or xs at d ∷ filter test (drop (at + 1) xs)
filter_first test xs at d found =
    elim (cases_Bool (ltb (position_or_len test xs) (length xs))) [
      | inl inside ↦
          let same : position_or_len test xs ≡ at = let both : Some (position_or_len test xs) ≡ Some at = sym (cond-true _ _ _ inside) ∙ found in cc in
          first_kept test xs d (ltb-true _ _ inside) ∙ rw (same, add-one) refl
      | inr past ↦ absurd (let none : None ≡ Some at = sym (cond-false _ _ _ past) ∙ found in cc)
    ]

-- all ports were gone through
pub all_pieces : (piece : Piece) (ports : List Port) (i : ℕ) (text old : List ℕ) → length ports ≤ i
    → text ++ flat_map (piece_where_for piece) (drop i ports) ≡ old ++ flat_map (piece_where_for piece) ports → text ≡ old ++ pieces_text piece ports
all_pieces piece ports i text old past so_far =
    sym (append-nil text)
    ∙ ap (λ ps. text ++ flat_map (piece_where_for piece) ps) (sym (drop_all i ports past))
    ∙ so_far
    ∙ ap (λ t. old ++ t) (pieces_where_for piece ports)

call_grouped : (old x p q e : List ℕ) → old ++ x ++ (p ++ q ++ e) ≡ old ++ (x ++ p ++ q ++ e)
call_grouped old x p q e = simp append_assoc

-- the front of a call with the module's name, and its arguments
pub call_parts : (inputs outputs : Piece) (front back name name' : List ℕ) (ports ports' : List Port) (old a b : List ℕ) → name' ≡ name → ports' ≡ ports
    → a ≡ old ++ (front ++ name' ++ back) → b ≡ a ++ arguments_text inputs outputs ports'
    → b ≡ old ++ (front ++ name ++ back ++ pieces_text inputs ports ++ pieces_text outputs ports ++ codes ");\n")
call_parts inputs outputs front back name name' ports ports' old a b named ported first second =
    second
    ∙ ap (λ t. t ++ arguments_text inputs outputs ports') first
    ∙ ap (λ n. old ++ (front ++ n ++ back) ++ arguments_text inputs outputs ports') named
    ∙ ap (λ ps. old ++ (front ++ name ++ back) ++ arguments_text inputs outputs ps) ported
    ∙ call_grouped old (front ++ name ++ back) (pieces_text inputs ports) (pieces_text outputs ports) (codes ");\n")
