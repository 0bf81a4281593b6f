-- Pieces, the tokens they stand for, and the first token of a list.
use Rattle.std.proofs.Common.{◌≡◌, ◌∙◌, ◌+◌, Bool, true, false, List, [], ◌∷◌, ◌++◌, Option, refl, sym, ap, arith, append_assoc, if◌then◌else◌}
use Rattle.sv_lexer.specs.declared.token.Token.{Token}
use Rattle.expr_parser.specs.Spelling.{is_mark}
use Rattle.expr_parser.specs.Input.{front_of, past_marks}
use Rattle.expr_parser.specs.Outcome.{grammar_tokens}
use Rattle.module_parser.specs.Rule.{Piece, written, spoken, deeper, lead, AreMarked}
use Rattle.module_parser.proofs.Rules.{first_of}

-- ---- texts one behind the other

pub written-append : (xs ys : List Piece) → written (xs ++ ys) ≡ written xs ++ written ys
written-append [] ys = refl
written-append (p ∷ xs) ys =
    ap (λ ts. p.marks ++ p.token ∷ ts) (written-append xs ys) ∙ sym (append_assoc p.marks (p.token ∷ written xs) (written ys))

-- with what stands behind both
pub written-behind : (xs ys : List Piece) (ts : List Token) → written (xs ++ ys) ++ ts ≡ written xs ++ (written ys ++ ts)
written-behind xs ys ts = ap (λ z. z ++ ts) (written-append xs ys) ∙ append_assoc (written xs) (written ys) ts

pub spoken-append : (xs ys : List Piece) → spoken (xs ++ ys) ≡ spoken xs ++ spoken ys
spoken-append [] ys = refl
spoken-append (p ∷ xs) ys = ap (λ ts. p.token ∷ ts) (spoken-append xs ys)

pub lead-append : (xs ys : List Piece) (n : Option Token) → lead (xs ++ ys) n ≡ lead xs (lead ys n)
lead-append [] ys n = refl
lead-append (p ∷ xs) ys n = refl

pub AreMarked-append : (xs ys : List Piece) → AreMarked xs → AreMarked ys → AreMarked (xs ++ ys)
AreMarked-append [] ys h k = k
AreMarked-append (p ∷ xs) ys h k = (h.0, h.1, AreMarked-append xs ys h.2 k)

pub AreMarked-front : (xs ys : List Piece) → AreMarked (xs ++ ys) → AreMarked xs
AreMarked-front [] ys h = tt
AreMarked-front (p ∷ xs) ys h = (h.0, h.1, AreMarked-front xs ys h.2)

pub AreMarked-back : (xs ys : List Piece) → AreMarked (xs ++ ys) → AreMarked ys
AreMarked-back [] ys h = h
AreMarked-back (p ∷ xs) ys h = AreMarked-back xs ys h.2

-- ---- one more open around a text

pub deeper-written : (xs : List Piece) → written (deeper xs) ≡ written xs
deeper-written [] = refl
deeper-written (p ∷ xs) = ap (λ ts. p.marks ++ p.token ∷ ts) (deeper-written xs)

pub deeper-append : (xs ys : List Piece) → deeper (xs ++ ys) ≡ deeper xs ++ deeper ys
deeper-append [] ys = refl
deeper-append (p ∷ xs) ys = ap (λ (ps : List Piece). record p { depth = p.depth + 1 } ∷ ps) (deeper-append xs ys)

pub deeper-marked : (xs : List Piece) → AreMarked xs → AreMarked (deeper xs)
deeper-marked [] h = tt
deeper-marked (p ∷ xs) h = (h.0, h.1, deeper-marked xs h.2)

pub deeper-lead : (xs : List Piece) (n : Option Token) → lead (deeper xs) n ≡ lead xs n
deeper-lead [] n = refl
deeper-lead (p ∷ xs) n = refl

piece-same : (p q : Piece) → p.marks ≡ q.marks → p.token ≡ q.token → p.depth ≡ q.depth → p ≡ q
piece-same p q a b c =
    ap (λ x. record { marks = x; token = p.token; depth = p.depth }) a ∙ ap (λ x. record { marks = q.marks; token = x; depth = p.depth }) b
    ∙ ap (λ x. record { marks = q.marks; token = q.token; depth = x }) c

pub deeper-same : (xs ys : List Piece) → deeper xs ≡ deeper ys → xs ≡ ys
deeper-same [] [] h = refl
deeper-same [] (q ∷ ys) h = absurd cc
deeper-same (p ∷ xs) [] h = absurd cc
deeper-same (p ∷ xs) (q ∷ ys) h =
    let head : record p { depth = p.depth + 1 } ≡ record q { depth = q.depth + 1 } = cc in
    let rest : deeper xs ≡ deeper ys = cc in
    let count : p.depth + 1 ≡ q.depth + 1 = ap (λ (x : Piece). x.depth) head in
    ap (λ z. z ∷ xs) (piece-same p q (ap (λ (x : Piece). x.marks) head) (ap (λ (x : Piece). x.token) head) (omega (arith, count))) ∙ ap (λ zs. q ∷ zs) (deeper-same xs ys rest)

-- ---- marks

marks-by : (c : Bool) (t : Token) (ts : List Token) → is_mark t.kind ≡ c → (if c then grammar_tokens ts else t ∷ grammar_tokens ts) ≡ []
    → (is_mark t.kind ≡ true) × (grammar_tokens ts ≡ [])
marks-by true t ts is h = (is, h)
marks-by false t ts is h = absurd cc

pub marks-one : (t : Token) (ts : List Token) → grammar_tokens (t ∷ ts) ≡ [] → (is_mark t.kind ≡ true) × (grammar_tokens ts ≡ [])
marks-one t ts h = marks-by (is_mark t.kind) t ts refl h

pub past_marks-all : (marks ts : List Token) → grammar_tokens marks ≡ [] → past_marks (marks ++ ts) ≡ past_marks ts
past_marks-all [] ts h = refl
past_marks-all (m ∷ marks) ts h =
    let one = marks-one m marks h in ap (λ (c : Bool). if c then past_marks (marks ++ ts) else m ∷ (marks ++ ts)) one.0 ∙ past_marks-all marks ts one.1

pub past_marks-none : (t : Token) (ts : List Token) → is_mark t.kind ≡ false → past_marks (t ∷ ts) ≡ t ∷ ts
past_marks-none t ts h = ap (λ (c : Bool). if c then past_marks ts else t ∷ ts) h

pub past_marks-token : (marks : List Token) (t : Token) (ts : List Token) → grammar_tokens marks ≡ [] → is_mark t.kind ≡ false → past_marks (marks ++ t ∷ ts) ≡ t ∷ ts
past_marks-token marks t ts h k = past_marks-all marks (t ∷ ts) h ∙ past_marks-none t ts k

pub first_of-marks : (marks ts : List Token) → grammar_tokens marks ≡ [] → first_of (marks ++ ts) ≡ first_of ts
first_of-marks marks ts h = ap front_of (past_marks-all marks ts h)

-- the first token of a text, with what stands behind it
pub lead-first : (ys : List Piece) → AreMarked ys → (behind : List Token) → first_of (written ys ++ behind) ≡ lead ys (first_of behind)
lead-first [] h behind = refl
lead-first (p ∷ ys) h behind =
    ap first_of (append_assoc p.marks (p.token ∷ written ys) behind) ∙ ap front_of (past_marks-token p.marks p.token (written ys ++ behind) h.0 h.1)

-- a list is cut in one way into marks, a token, and what stands behind it
pub cut-same : (m n : List Token) (t u : Token) (r s : List Token) → grammar_tokens m ≡ [] → grammar_tokens n ≡ [] → is_mark t.kind ≡ false → is_mark u.kind ≡ false
    → m ++ t ∷ r ≡ n ++ u ∷ s → (m ≡ n) × (t ≡ u) × (r ≡ s)
cut-same [] [] t u r s a b c d h = (refl, cc, cc)
cut-same [] (v ∷ n) t u r s a b c d h = let one = marks-one v n b in let same : t ≡ v = cc in absurd cc
cut-same (v ∷ m) [] t u r s a b c d h = let one = marks-one v m a in let same : v ≡ u = cc in absurd cc
cut-same (v ∷ m) (w ∷ n) t u r s a b c d h =
    let one = marks-one v m a in
    let two = marks-one w n b in
    let head : v ≡ w = cc in
    let rest : m ++ t ∷ r ≡ n ++ u ∷ s = cc in
    let more = cut-same m n t u r s one.1 two.1 c d rest in
    (ap (λ z. z ∷ m) head ∙ ap (λ zs. w ∷ zs) more.0, more.1, more.2)
