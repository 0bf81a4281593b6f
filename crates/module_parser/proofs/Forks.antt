-- Two texts at the front of the same tokens: alike but for their depths, or one goes on where the other ends.
use Rattle.std.proofs.Common.{◌≡◌, ◌∙◌, ◌⊎◌, inl, inr, List, [], ◌∷◌, ◌++◌, Some, refl, sym, ap, append_assoc}
use Rattle.sv_lexer.specs.declared.token.Token.{Token}
use Rattle.module_parser.specs.Rule.{Piece, written, spoken, AreMarked}
use Rattle.module_parser.proofs.Rules.{first_of}
use Rattle.module_parser.proofs.Streams.{lead-first, cut-same}

-- the same marks and tokens
abbrev pub Alike : List Piece → List Piece → Type 0
Alike [] [] = Unit {0}
Alike [] (q ∷ ys) = ⊥
Alike (p ∷ xs) [] = ⊥
Alike (p ∷ xs) (q ∷ ys) = (p.marks ≡ q.marks) × (p.token ≡ q.token) × Alike xs ys

-- the second has more tokens, from the one behind the first on
pub record Longer (xs : List Piece) (behind : List Token) (ys : List Piece) : Type 0 where
  pub token : Token
  pub more : List Token
  pub is : spoken ys ≡ spoken xs ++ token ∷ more
  pub comes : first_of behind ≡ Some token

abbrev pub Fork : List Piece → List Token → List Piece → List Token → Type 0
Fork xs b ys c = Alike xs ys ⊎ (Longer xs b ys ⊎ Longer ys c xs)

fork_more : (p q : Piece) (xs : List Piece) (b : List Token) (ys : List Piece) (c : List Token) → p.marks ≡ q.marks → p.token ≡ q.token
    → Fork xs b ys c → Fork (p ∷ xs) b (q ∷ ys) c
fork_more p q xs b ys c ms t (inl h) = inl (ms, t, h)
fork_more p q xs b ys c ms t (inr (inl h)) =
    inr (inl (record { token = h.token; more = h.more; is = ap (λ z. z ∷ spoken ys) (sym t) ∙ ap (λ z. p.token ∷ z) h.is; comes = h.comes }))
fork_more p q xs b ys c ms t (inr (inr h)) =
    inr (inr (record { token = h.token; more = h.more; is = ap (λ z. z ∷ spoken xs) t ∙ ap (λ z. q.token ∷ z) h.is; comes = h.comes }))

pub fork : (xs : List Piece) (b : List Token) (ys : List Piece) (c : List Token) → AreMarked xs → AreMarked ys → written xs ++ b ≡ written ys ++ c → Fork xs b ys c
fork [] b [] c h k same = inl tt
fork [] b (q ∷ ys) c h k same =
    inr (inl (record { token = q.token; more = spoken ys; is = refl; comes = ap first_of same ∙ lead-first (q ∷ ys) k c }))
fork (p ∷ xs) b [] c h k same =
    inr (inr (record { token = p.token; more = spoken xs; is = refl; comes = ap first_of (sym same) ∙ lead-first (p ∷ xs) h b }))
fork (p ∷ xs) b (q ∷ ys) c h k same =
    let cut = cut-same p.marks q.marks p.token q.token (written xs ++ b) (written ys ++ c) h.0 k.0 h.1 k.1
    (sym (append_assoc p.marks (p.token ∷ written xs) b) ∙ same ∙ append_assoc q.marks (q.token ∷ written ys) c) in
    fork_more p q xs b ys c cut.0 cut.1 (fork xs b ys c h.2 k.2 cut.2)

pub alike-spoken : (xs ys : List Piece) → Alike xs ys → spoken xs ≡ spoken ys
alike-spoken [] [] h = refl
alike-spoken [] (q ∷ ys) h = absurd h
alike-spoken (p ∷ xs) [] h = absurd h
alike-spoken (p ∷ xs) (q ∷ ys) h = ap (λ z. z ∷ spoken xs) h.1 ∙ ap (λ z. q.token ∷ z) (alike-spoken xs ys h.2)

pub piece-same : (p q : Piece) → p.marks ≡ q.marks → p.token ≡ q.token → p.depth ≡ q.depth → p ≡ q
piece-same p q a b c =
    ap (λ x. record { marks = x; token = p.token; depth = p.depth }) a ∙ ap (λ x. record { marks = q.marks; token = x; depth = p.depth }) b
    ∙ ap (λ x. record { marks = q.marks; token = q.token; depth = x }) c
