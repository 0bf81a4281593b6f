-- Two texts at the front of the same tokens, down to their marks: written alike, or one goes on with pieces where the other
-- ends.
use Rattle.std.proofs.Common.{◌≡◌, ◌∙◌, ◌⊎◌, inl, inr, List, [], ◌∷◌, ◌++◌, refl, sym, ap, append_assoc}
use Rattle.sv_lexer.specs.declared.token.Token.{Token}
use Rattle.module_parser.specs.Rule.{Piece, written, AreMarked}
use Rattle.module_parser.proofs.Streams.{written-append, cut-same}

-- the second text goes on with this piece where the first ends
pub record Ahead (xs : List Piece) (b : List Token) (ys : List Piece) (c : List Token) : Type 0 where
  pub front : List Piece
  pub piece : Piece
  pub more : List Piece
  pub is : ys ≡ front ++ (piece ∷ more)
  pub alike : written front ≡ written xs
  pub rest_is : b ≡ piece.marks ++ piece.token ∷ (written more ++ c)

abbrev pub Cut : List Piece → List Token → List Piece → List Token → Type 0
Cut xs b ys c = ((written xs ≡ written ys) × (b ≡ c)) ⊎ (Ahead xs b ys c ⊎ Ahead ys c xs b)

written_head : (p q : Piece) (xs ys : List Piece) → p.marks ≡ q.marks → p.token ≡ q.token → written xs ≡ written ys → written (p ∷ xs) ≡ written (q ∷ ys)
written_head p q xs ys ms t h =
    ap (λ z. z ++ p.token ∷ written xs) ms ∙ ap (λ z. q.marks ++ z ∷ written xs) t ∙ ap (λ z. q.marks ++ q.token ∷ z) h

ahead_more : (p q : Piece) (xs : List Piece) (b : List Token) (ys : List Piece) (c : List Token) → p.marks ≡ q.marks → p.token ≡ q.token
    → Ahead xs b ys c → Ahead (p ∷ xs) b (q ∷ ys) c
ahead_more p q xs b ys c ms t h = record {
  front = q ∷ h.front;
  piece = h.piece;
  more = h.more;
  is = ap (λ z. q ∷ z) h.is;
  alike = written_head q p h.front xs (sym ms) (sym t) h.alike;
  rest_is = h.rest_is;
}

cut_more : (p q : Piece) (xs : List Piece) (b : List Token) (ys : List Piece) (c : List Token) → p.marks ≡ q.marks → p.token ≡ q.token
    → Cut xs b ys c → Cut (p ∷ xs) b (q ∷ ys) c
cut_more p q xs b ys c ms t (inl h) = inl (written_head p q xs ys ms t h.0, h.1)
cut_more p q xs b ys c ms t (inr (inl h)) = inr (inl (ahead_more p q xs b ys c ms t h))
cut_more p q xs b ys c ms t (inr (inr h)) = inr (inr (ahead_more q p ys c xs b (sym ms) (sym t) h))

-- the whole of a text stands behind the empty one
ahead_all : (q : Piece) (ys : List Piece) (b c : List Token) → b ≡ written (q ∷ ys) ++ c → Ahead [] b (q ∷ ys) c
ahead_all q ys b c same = record { front = []; piece = q; more = ys; is = refl; alike = refl; rest_is = same ∙ append_assoc q.marks (q.token ∷ written ys) c }

pub cut : (xs : List Piece) (b : List Token) (ys : List Piece) (c : List Token) → AreMarked xs → AreMarked ys → written xs ++ b ≡ written ys ++ c → Cut xs b ys c
cut [] b [] c h k same = inl (refl, same)
cut [] b (q ∷ ys) c h k same = inr (inl (ahead_all q ys b c same))
cut (p ∷ xs) b [] c h k same = inr (inr (ahead_all p xs c b (sym same)))
cut (p ∷ xs) b (q ∷ ys) c h k same =
    let one = cut-same p.marks q.marks p.token q.token (written xs ++ b) (written ys ++ c) h.0 k.0 h.1 k.1
    (sym (append_assoc p.marks (p.token ∷ written xs) b) ∙ same ∙ append_assoc q.marks (q.token ∷ written ys) c) in
    cut_more p q xs b ys c one.0 one.1 (cut xs b ys c h.2 k.2 one.2)

-- ---- the last of a list

-- a list that ends with these has the same last
pub last_same : {A : Type 0} (xs ys : List A) (a b : A) → xs ++ a ∷ [] ≡ ys ++ b ∷ [] → a ≡ b
last_same [] [] a b h = cc
last_same [] (y ∷ []) a b h = absurd cc
last_same [] (y ∷ z ∷ ys) a b h = absurd cc
last_same (x ∷ []) [] a b h = absurd cc
last_same (x ∷ z ∷ xs) [] a b h = absurd cc
last_same (x ∷ xs) (y ∷ ys) a b h = let rest : xs ++ a ∷ [] ≡ ys ++ b ∷ [] = cc in last_same xs ys a b rest

nothing_behind : {A : Type 0} (front : List A) (p : A) (more : List A) → [] ≡ front ++ p ∷ more → ⊥
nothing_behind [] p more h = absurd cc
nothing_behind (x ∷ front) p more h = absurd cc

-- what does not reach the last stands before it
pub before_last : {A : Type 0} (front : List A) (p : A) (more es : List A) (e : A) → es ++ e ∷ [] ≡ front ++ p ∷ more → (rest : List A) × (es ≡ front ++ rest)
before_last [] p more es e h = (es, refl)
before_last (x ∷ front) p more [] e h = absurd (nothing_behind front p more (let rest : [] ≡ front ++ p ∷ more = cc in rest))
before_last (x ∷ front) p more (y ∷ es) e h =
    let head : y ≡ x = cc in
    let rest : es ++ e ∷ [] ≡ front ++ p ∷ more = cc in
    let found = before_last front p more es e rest in
    (found.0, ap (λ z. z ∷ es) head ∙ ap (λ z. x ∷ z) found.1)

last_written : (xs : List Piece) (p : Piece) → written (xs ++ p ∷ []) ≡ (written xs ++ p.marks) ++ p.token ∷ []
last_written xs p = written-append xs (p ∷ []) ∙ sym (append_assoc (written xs) p.marks (p.token ∷ []))

pub no_last : (xs : List Piece) (p : Piece) → written (xs ++ p ∷ []) ≡ [] → ⊥
no_last xs p h = nothing_behind (written xs ++ p.marks) p.token [] (sym h ∙ last_written xs p)

-- the token of the last piece is the last
pub last_token : (ds es : List Piece) (d e : Piece) → written (ds ++ d ∷ []) ≡ written (es ++ e ∷ []) → d.token ≡ e.token
last_token ds es d e h =
    last_same (written ds ++ d.marks) (written es ++ e.marks) d.token e.token (sym (last_written ds d) ∙ h ∙ last_written es e)

ends_more : {A : Type 0} (x : A) (xs : List A) → (xs ≡ []) ⊎ ((us : List A) × ((u : A) × (xs ≡ us ++ u ∷ []))) → (us : List A) × ((u : A) × (x ∷ xs ≡ us ++ u ∷ []))
ends_more x xs (inl h) = ([], (x, ap (λ z. x ∷ z) h))
ends_more x xs (inr h) = (x ∷ h.0, (h.1.0, ap (λ z. x ∷ z) h.1.1))

-- no last, or all before it and the last
pub ends_by : {A : Type 0} (xs : List A) → (xs ≡ []) ⊎ ((us : List A) × ((u : A) × (xs ≡ us ++ u ∷ [])))
ends_by [] = inl refl
ends_by (x ∷ xs) = inr (ends_more x xs (ends_by xs))
