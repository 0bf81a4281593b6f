-- Tokens as pieces of a text, nested as a phrase says.
use Rattle.std.proofs.Common.{◌≡◌, ◌∙◌, ℕ, ◌+◌, ◌<◌, ◌≤◌, Bool, true, false, ◌&&◌, List, [], ◌∷◌, ◌++◌, length, refl, ap, subst, arith, if◌then◌else◌}
use Rattle.sv_base.specs.declared.refusal.Place.{Place}
use Rattle.sv_lexer.specs.declared.token.TokenKind.{TokenKind}
use Rattle.sv_lexer.specs.declared.token.TokenKind.TheVariants as kind
use Rattle.sv_lexer.specs.declared.token.Token.{Token}
use Rattle.expr_parser.specs.Spelling.{is_mark, is_sign, is_word, is_system, is_this, is_identifier, is_function, is_unary, binds}
use Rattle.expr_parser.specs.Grammar.{Phrase, number, fill, name, selected, ranged, group, concat, repeat, call, unary, binary, choice, Phrases, only, more, tokens_of, all_tokens_of, IsPhrase, ArePhrases, Is}
use Rattle.expr_parser.specs.Nesting.{nesting}
use Rattle.expr_parser.specs.Outcome.{grammar_tokens, EndsInGrammar, IsShallow, refusal_at}
use Rattle.expr_parser.specs.Input.{front_of, past_marks}
use Rattle.module_parser.specs.Rule.{Piece, written, spoken, AreMarked, AreNested}
use Rattle.module_parser.proofs.Rules.{first_of, Fits}

-- ---- the next token of the grammar

front-one : (c : Bool) (t : Token) (a b ts : List Token) → front_of a ≡ front_of b → front_of (if c then a else t ∷ a) ≡ front_of (if c then b else t ∷ ts)
front-one true t a b ts h = h
front-one false t a b ts h = refl

pub first_of-grammar : (ts : List Token) → front_of (grammar_tokens ts) ≡ first_of ts
first_of-grammar [] = refl
first_of-grammar (t ∷ ts) = front-one (is_mark t.kind) t (grammar_tokens ts) (past_marks ts) ts (first_of-grammar ts)

-- a refusal looks at the first token alone
pub refusal_at-front : (last : Place) (a b : List Token) → front_of a ≡ front_of b → refusal_at last a ≡ refusal_at last b
refusal_at-front last [] [] h = refl
refusal_at-front last [] (t ∷ b) h = absurd cc
refusal_at-front last (t ∷ a) [] h = absurd cc
refusal_at-front last (t ∷ a) (u ∷ b) h = let same : t ≡ u = cc in ap (λ k. refusal_at last (k ∷ [])) same

marked : (c : Bool) (t : Token) (a b : List Token) → (if c then a ++ b else t ∷ (a ++ b)) ≡ (if c then a else t ∷ a) ++ b
marked true t a b = refl
marked false t a b = refl

pub grammar_tokens-append : (a b : List Token) → grammar_tokens (a ++ b) ≡ grammar_tokens a ++ grammar_tokens b
grammar_tokens-append [] b = refl
grammar_tokens-append (t ∷ a) b =
    ap (λ ts. if is_mark t.kind then ts else t ∷ ts) (grammar_tokens-append a b) ∙ marked (is_mark t.kind) t (grammar_tokens a) (grammar_tokens b)

-- ---- no token of a phrase is a mark

abbrev pub NoMarks : List Token → Type 0
NoMarks [] = Unit {0}
NoMarks (t ∷ ts) = (is_mark t.kind ≡ false) × NoMarks ts

NoMarks-append : (a b : List Token) → NoMarks a → NoMarks b → NoMarks (a ++ b)
NoMarks-append [] b h k = k
NoMarks-append (t ∷ a) b h k = (h.0, NoMarks-append a b h.1 k)

pub NoMarks-back : (a b : List Token) → NoMarks (a ++ b) → NoMarks b
NoMarks-back [] b h = h
NoMarks-back (t ∷ a) b h = NoMarks-back a b h.1

pub unmarked : (ts : List Token) → NoMarks ts → grammar_tokens ts ≡ ts
unmarked [] h = refl
unmarked (t ∷ ts) h = ap (λ (c : Bool). if c then grammar_tokens ts else t ∷ grammar_tokens ts) h.0 ∙ ap (λ z. t ∷ z) (unmarked ts h.1)

sign-kind : (k : TokenKind) (c : Bool) → is_sign k && c ≡ true → is_mark k ≡ false
sign-kind kind.Word c h = refl
sign-kind kind.System c h = refl
sign-kind kind.Number c h = refl
sign-kind kind.Fill c h = refl
sign-kind kind.Sign c h = refl
sign-kind kind.Mark c h = absurd cc

word-kind : (k : TokenKind) (c : Bool) → is_word k && c ≡ true → is_mark k ≡ false
word-kind kind.Word c h = refl
word-kind kind.System c h = refl
word-kind kind.Number c h = refl
word-kind kind.Fill c h = refl
word-kind kind.Sign c h = refl
word-kind kind.Mark c h = absurd cc

system-kind : (k : TokenKind) (c : Bool) → is_system k && c ≡ true → is_mark k ≡ false
system-kind kind.Word c h = refl
system-kind kind.System c h = refl
system-kind kind.Number c h = refl
system-kind kind.Fill c h = refl
system-kind kind.Sign c h = refl
system-kind kind.Mark c h = absurd cc

binds-kind : (k : TokenKind) (n : ℕ) → 0 < (if is_sign k then n else 0) → is_mark k ≡ false
binds-kind kind.Word n h = refl
binds-kind kind.System n h = refl
binds-kind kind.Number n h = refl
binds-kind kind.Fill n h = refl
binds-kind kind.Sign n h = refl
binds-kind kind.Mark n h = absurd (omega (arith, h))

this-plain : (text : List ℕ) (t : Token) → Is text t → is_mark t.kind ≡ false
unfolding is_this
this-plain text t h = sign-kind t.kind _ h

name-plain : (t : Token) → is_identifier t ≡ true → is_mark t.kind ≡ false
unfolding is_identifier
name-plain t h = word-kind t.kind _ h

function-plain : (t : Token) → is_function t ≡ true → is_mark t.kind ≡ false
unfolding is_function
function-plain t h = system-kind t.kind _ h

unary-plain : (t : Token) → is_unary t ≡ true → is_mark t.kind ≡ false
unfolding is_unary
unary-plain t h = sign-kind t.kind _ h

binds-plain : (t : Token) → 0 < binds t → is_mark t.kind ≡ false
unfolding binds
binds-plain t h = binds-kind t.kind _ h

one-plain : (a : List Token) (t : Token) (b : List Token) → NoMarks a → is_mark t.kind ≡ false → NoMarks b → NoMarks (a ++ t ∷ b)
one-plain a t b h is k = NoMarks-append a (t ∷ b) h (is, k)

mutual
  pub plain : (p : Phrase) → IsPhrase p → NoMarks (tokens_of p)
  plain (number t) h = (ap is_mark h, tt)
  plain (fill t) h = (ap is_mark h, tt)
  plain (name t) h = (name-plain t h, tt)
  plain (selected id o p c) h = (name-plain id h.0, (this-plain _ o h.1, one-plain (tokens_of p) c [] (plain p h.2) (this-plain _ c h.3) tt))
  plain (ranged w id o p b q c) h = (
    name-plain id h.0,
    (
      this-plain _ o h.1,
      NoMarks-append (tokens_of p ++ b ∷ tokens_of q) (c ∷ []) (one-plain (tokens_of p) b (tokens_of q) (plain p h.2) (this-plain _ b h.3) (plain q h.4)) (this-plain _ c h.5, tt),
    ),
  )
  plain (group o p c) h = (this-plain _ o h.0, one-plain (tokens_of p) c [] (plain p h.1) (this-plain _ c h.2) tt)
  plain (concat o ps c) h = (this-plain _ o h.0, one-plain (all_tokens_of ps) c [] (all_plain ps h.1) (this-plain _ c h.2) tt)
  plain (repeat o p i ps d c) h = (
    this-plain _ o h.0,
    NoMarks-append (tokens_of p ++ i ∷ all_tokens_of ps) (d ∷ c ∷ [])
        (one-plain (tokens_of p) i (all_tokens_of ps) (plain p h.1) (this-plain _ i h.2) (all_plain ps h.3)) (this-plain _ d h.4, (this-plain _ c h.5, tt)),
  )
  plain (call f o p c) h = (function-plain f h.0, (this-plain _ o h.1, one-plain (tokens_of p) c [] (plain p h.2) (this-plain _ c h.3) tt))
  plain (unary s p) h = (unary-plain s h.0, plain p h.1)
  plain (binary p s q) h = one-plain (tokens_of p) s (tokens_of q) (plain p h.1) (binds-plain s h.0) (plain q h.3)
  plain (choice p t q u r) h =
      NoMarks-append (tokens_of p ++ t ∷ tokens_of q) (u ∷ tokens_of r)
      (one-plain (tokens_of p) t (tokens_of q) (plain p h.1) (this-plain _ t h.0) (plain q h.3)) (this-plain _ u h.4, plain r h.5)

  pub all_plain : (ps : Phrases) → ArePhrases ps → NoMarks (all_tokens_of ps)
  all_plain (only p) h = plain p h
  all_plain (more p c ps) h = one-plain (tokens_of p) c (all_tokens_of ps) (plain p h.0) (this-plain _ c h.1) (all_plain ps h.2)

-- ---- tokens as pieces

-- one more mark at the front; marks alone are no piece
abbrev pub add_mark : Token → List Piece → List Piece
add_mark t [] = []
add_mark t (p ∷ ps) = record p { marks = t ∷ p.marks } ∷ ps

-- the tokens are those of the phrase behind its k-th
abbrev pub pieces : Phrase → ℕ → List Token → List Piece
pieces p k [] = []
pieces p k (t ∷ ts) = if is_mark t.kind then add_mark t (pieces p k ts) else record { marks = []; token = t; depth = nesting p (k + 1) } ∷ pieces p (k + 1) ts

add_mark-written : (t : Token) (ps : List Piece) (u : Token) (us : List Token) → written ps ≡ u ∷ us → written (add_mark t ps) ≡ t ∷ written ps
add_mark-written t [] u us h = absurd cc
add_mark-written t (p ∷ ps) u us h = refl

add_mark-spoken : (t : Token) (ps : List Piece) → spoken (add_mark t ps) ≡ spoken ps
add_mark-spoken t [] = refl
add_mark-spoken t (p ∷ ps) = refl

add_mark-marked : (t : Token) (ps : List Piece) → is_mark t.kind ≡ true → AreMarked ps → AreMarked (add_mark t ps)
add_mark-marked t [] is h = tt
add_mark-marked t (p ∷ ps) is h = (ap (λ (c : Bool). if c then grammar_tokens p.marks else t ∷ grammar_tokens p.marks) is ∙ h.0, h.1, h.2)

add_mark-nested : (phrase : Phrase) (k : ℕ) (t : Token) (ps : List Piece) → AreNested phrase k ps → AreNested phrase k (add_mark t ps)
add_mark-nested phrase k t [] h = tt
add_mark-nested phrase k t (p ∷ ps) h = h

-- the marks and tokens of the pieces are the list, where no mark stands last
written-by : (p : Phrase) (k : ℕ) (t u : Token) (us : List Token) (c : Bool) → written (pieces p k (u ∷ us)) ≡ u ∷ us → written (pieces p (k + 1) (u ∷ us)) ≡ u ∷ us
    → written (if c then add_mark t (pieces p k (u ∷ us)) else record { marks = []; token = t; depth = nesting p (k + 1) } ∷ pieces p (k + 1) (u ∷ us)) ≡ t ∷ u ∷ us
written-by p k t u us true h l = add_mark-written t (pieces p k (u ∷ us)) u us h ∙ ap (λ z. t ∷ z) h
written-by p k t u us false h l = ap (λ z. t ∷ z) l

pub pieces-written : (p : Phrase) (k : ℕ) (ts : List Token) → EndsInGrammar ts → written (pieces p k ts) ≡ ts
pieces-written p k [] h = refl
pieces-written p k (t ∷ []) h = ap (λ (c : Bool). written (if c then [] else record { marks = []; token = t; depth = nesting p (k + 1) } ∷ [])) h
pieces-written p k (t ∷ u ∷ us) h = written-by p k t u us (is_mark t.kind) (pieces-written p k (u ∷ us) h) (pieces-written p (k + 1) (u ∷ us) h)

spoken-by : (p : Phrase) (k : ℕ) (t : Token) (ts : List Token) (c : Bool) → spoken (pieces p k ts) ≡ grammar_tokens ts → spoken (pieces p (k + 1) ts) ≡ grammar_tokens ts
    → spoken (if c then add_mark t (pieces p k ts) else record { marks = []; token = t; depth = nesting p (k + 1) } ∷ pieces p (k + 1) ts)
    ≡ (if c then grammar_tokens ts else t ∷ grammar_tokens ts)
spoken-by p k t ts true h l = add_mark-spoken t (pieces p k ts) ∙ h
spoken-by p k t ts false h l = ap (λ z. t ∷ z) l

pub pieces-spoken : (p : Phrase) (k : ℕ) (ts : List Token) → spoken (pieces p k ts) ≡ grammar_tokens ts
pieces-spoken p k [] = refl
pieces-spoken p k (t ∷ ts) = spoken-by p k t ts (is_mark t.kind) (pieces-spoken p k ts) (pieces-spoken p (k + 1) ts)

marked-by : (p : Phrase) (k : ℕ) (t : Token) (ts : List Token) (c : Bool) → is_mark t.kind ≡ c → AreMarked (pieces p k ts) → AreMarked (pieces p (k + 1) ts)
    → AreMarked (if c then add_mark t (pieces p k ts) else record { marks = []; token = t; depth = nesting p (k + 1) } ∷ pieces p (k + 1) ts)
marked-by p k t ts true is h l = add_mark-marked t (pieces p k ts) is h
marked-by p k t ts false is h l = (refl, is, l)

pub pieces-marked : (p : Phrase) (k : ℕ) (ts : List Token) → AreMarked (pieces p k ts)
pieces-marked p k [] = tt
pieces-marked p k (t ∷ ts) = marked-by p k t ts (is_mark t.kind) refl (pieces-marked p k ts) (pieces-marked p (k + 1) ts)

nested-by : (p : Phrase) (k : ℕ) (t : Token) (ts : List Token) (c : Bool) → AreNested p k (pieces p k ts) → AreNested p (k + 1) (pieces p (k + 1) ts)
    → AreNested p k (if c then add_mark t (pieces p k ts) else record { marks = []; token = t; depth = nesting p (k + 1) } ∷ pieces p (k + 1) ts)
nested-by p k t ts true h l = add_mark-nested p k t (pieces p k ts) h
nested-by p k t ts false h l = (refl, l)

pub pieces-nested : (p : Phrase) (k : ℕ) (ts : List Token) → AreNested p k (pieces p k ts)
pieces-nested p k [] = tt
pieces-nested p k (t ∷ ts) = nested-by p k t ts (is_mark t.kind) (pieces-nested p k ts) (pieces-nested p (k + 1) ts)

pub AreNested-append : (p : Phrase) (k : ℕ) (xs ys : List Piece) → AreNested p k xs → AreNested p (k + length (spoken xs)) ys → AreNested p k (xs ++ ys)
AreNested-append p k [] ys h l = let at : k + 0 ≡ k = omega arith in let P : ℕ → Type 0 = λ n. AreNested p n ys in subst P at l
AreNested-append p k (x ∷ xs) ys h l =
    let at : k + length (spoken (x ∷ xs)) ≡ k + 1 + length (spoken xs) = omega arith in
    let P : ℕ → Type 0 = λ n. AreNested p n ys in (h.0, AreNested-append p (k + 1) xs ys h.1 (subst P at l))

-- nowhere nested too deep
pub fits_by : (depth : ℕ) (p : Phrase) (k n : ℕ) (ps : List Piece) → AreNested p k ps → k + length (spoken ps) ≤ n → IsShallow depth p n → Fits depth ps
fits_by depth p k n [] h le low = tt
fits_by depth p k n (x ∷ ps) h le low =
    let here = low (k + 1) (omega (arith, le)) in
    let is = h.0 in
    (omega (arith, here, is), fits_by depth p (k + 1) n ps h.1 (omega (arith, le)) low)

-- ---- the last piece

pub record LastPiece (p : Phrase) (k : ℕ) (front : List Token) (d : Token) : Type 0 where
  pub deep : Piece
  pub token_is : deep.token ≡ d
  pub depth_is : deep.depth ≡ nesting p (k + length (grammar_tokens front) + 1)
  pub split : pieces p k (front ++ d ∷ []) ≡ pieces p k front ++ deep ∷ []

last-mark : (t : Token) (ps : List Piece) (x : Piece) → (y : Piece) × ((y.token ≡ x.token) × (y.depth ≡ x.depth) × (add_mark t (ps ++ x ∷ []) ≡ add_mark t ps ++ y ∷ []))
last-mark t [] x = (record x { marks = t ∷ x.marks }, (refl, refl, refl))
last-mark t (p ∷ ps) x = (x, (refl, refl, refl))

last-by : (p : Phrase) (k : ℕ) (t : Token) (ts : List Token) (d : Token) (c : Bool) → LastPiece p k ts d → LastPiece p (k + 1) ts d
    → (y : Piece) × ((y.token ≡ d) × (y.depth ≡ nesting p (k + length (if c then grammar_tokens ts else t ∷ grammar_tokens ts) + 1))
    × ((if c then add_mark t (pieces p k (ts ++ d ∷ [])) else record { marks = []; token = t; depth = nesting p (k + 1) } ∷ pieces p (k + 1) (ts ++ d ∷ []))
    ≡ (if c then add_mark t (pieces p k ts) else record { marks = []; token = t; depth = nesting p (k + 1) } ∷ pieces p (k + 1) ts) ++ y ∷ []))
last-by p k t ts d true h l =
    let m = last-mark t (pieces p k ts) h.deep in
    (m.0, (m.1.0 ∙ h.token_is, m.1.1 ∙ h.depth_is, ap (add_mark t) h.split ∙ m.1.2))
last-by p k t ts d false h l =
    let at : k + 1 + length (grammar_tokens ts) + 1 ≡ k + length (t ∷ grammar_tokens ts) + 1 = omega arith in
    (l.deep, (l.token_is, l.depth_is ∙ ap (nesting p) at, ap (λ (z : List Piece). record { marks = []; token = t; depth = nesting p (k + 1) } ∷ z) l.split))

pub last_piece : (p : Phrase) (k : ℕ) (front : List Token) (d : Token) → is_mark d.kind ≡ false → LastPiece p k front d
last_piece p k [] d h = record {
  deep = record { marks = []; token = d; depth = nesting p (k + 1) };
  token_is = refl;
  depth_is = let at : k + 1 ≡ k + 0 + 1 = omega arith in ap (nesting p) at;
  split = ap (λ (c : Bool). if c then [] else record { marks = []; token = d; depth = nesting p (k + 1) } ∷ []) h;
}
last_piece p k (t ∷ ts) d h =
    let m = last-by p k t ts d (is_mark t.kind) (last_piece p k ts d h) (last_piece p (k + 1) ts d h) in
    record { deep = m.0; token_is = m.1.0; depth_is = m.1.1; split = m.1.2 }

pub EndsInGrammar-last : (a : List Token) (t : Token) → is_mark t.kind ≡ false → EndsInGrammar (a ++ t ∷ [])
EndsInGrammar-last [] t h = h
EndsInGrammar-last (u ∷ []) t h = h
EndsInGrammar-last (u ∷ v ∷ a) t h = EndsInGrammar-last (v ∷ a) t h
