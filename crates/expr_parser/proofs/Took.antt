-- From one place of a list to a later one, and the tokens of the grammar on the way.
use Rattle.std.proofs.Common.{◌≡◌, ◌∙◌, ◌<◌, Bool, true, false, List, [], ◌∷◌, ◌++◌, length, Some, refl, sym, ap, arith, if◌then◌else◌, append_assoc, length-append}
use Rattle.sv_lexer.specs.declared.token.Token.{Token}
use Rattle.sv_base.specs.declared.refusal.Place.{Place}
use Rattle.expr_parser.specs.Spelling.{is_mark}
use Rattle.expr_parser.specs.Input.{past_marks, front_of, behind}
use Rattle.expr_parser.specs.Outcome.{grammar_tokens, EndsInGrammar, refusal_at}

pub record Took (from to run : List Token) : Type 0 where
  pub front : List Token
  pub split : from ≡ front ++ to
  pub ends : EndsInGrammar front
  pub run_is : grammar_tokens front ≡ run

pub Took-none : (ts : List Token) → Took ts ts []
Took-none ts = record { front = []; split = refl; ends = tt; run_is = refl }

EndsInGrammar-append : (a b : List Token) → EndsInGrammar a → EndsInGrammar b → EndsInGrammar (a ++ b)
EndsInGrammar-append [] b h k = k
EndsInGrammar-append (t ∷ []) [] h k = h
EndsInGrammar-append (t ∷ []) (u ∷ b) h k = k
EndsInGrammar-append (t ∷ u ∷ a) b h k = EndsInGrammar-append (u ∷ a) b h k

marked : (c : Bool) (t : Token) (a b : List Token) → (if c then a ++ b else t ∷ (a ++ b)) ≡ (if c then a else t ∷ a) ++ b
marked true t a b = refl
marked false t a b = refl

pub grammar_tokens-append : (a b : List Token) → grammar_tokens (a ++ b) ≡ grammar_tokens a ++ grammar_tokens b
grammar_tokens-append [] b = refl
grammar_tokens-append (t ∷ a) b =
    ap (λ ts. if is_mark t.kind then ts else t ∷ ts) (grammar_tokens-append a b) ∙ marked (is_mark t.kind) t (grammar_tokens a) (grammar_tokens b)

pub Took-then : (a b c r s : List Token) → Took a b r → Took b c s → Took a c (r ++ s)
Took-then a b c r s x y = record {
  front = x.front ++ y.front;
  split = x.split ∙ ap (λ ts. x.front ++ ts) y.split ∙ sym (append_assoc x.front y.front c);
  ends = EndsInGrammar-append x.front y.front x.ends y.ends;
  run_is = grammar_tokens-append x.front y.front ∙ ap (λ ts. ts ++ grammar_tokens y.front) x.run_is ∙ ap (λ ts. r ++ ts) y.run_is;
}

-- the next token of the grammar stands first of those that are left
front-marked : (c : Bool) (t : Token) (a b : List Token) → front_of a ≡ front_of b → front_of (if c then a else t ∷ a) ≡ front_of (if c then b else t ∷ b)
front-marked true t a b h = h
front-marked false t a b h = refl

front-one : (c : Bool) (t : Token) (a b ts : List Token) → front_of a ≡ front_of b → front_of (if c then a else t ∷ a) ≡ front_of (if c then b else t ∷ ts)
front-one true t a b ts h = h
front-one false t a b ts h = refl

pub grammar_tokens-front : (ts : List Token) → front_of (grammar_tokens ts) ≡ front_of (past_marks ts)
grammar_tokens-front [] = refl
grammar_tokens-front (t ∷ ts) = front-one (is_mark t.kind) t (grammar_tokens ts) (past_marks ts) ts (grammar_tokens-front ts)

-- a refusal looks at the first token alone
pub refusal_at-front : (last : Place) (a b : List Token) → front_of a ≡ front_of b → refusal_at last a ≡ refusal_at last b
refusal_at-front last [] [] h = refl
refusal_at-front last [] (t ∷ b) h = absurd cc
refusal_at-front last (t ∷ a) [] h = absurd cc
refusal_at-front last (t ∷ a) (u ∷ b) h = let same : t ≡ u = cc in ap (λ k. refusal_at last (k ∷ [])) same

-- marks, and then a token
pub record Marked (ts : List Token) (t : Token) : Type 0 where
  pub marks : List Token
  pub split : ts ≡ marks ++ t ∷ behind (past_marks ts)
  pub none : grammar_tokens marks ≡ []
  pub no_mark : is_mark t.kind ≡ false

marked_at : (c : Bool) (u : Token) (us : List Token) (t : Token) → is_mark u.kind ≡ c → (front_of (past_marks us) ≡ Some t → Marked us t)
    → front_of (if c then past_marks us else u ∷ us) ≡ Some t → (marks : List Token) × ((u ∷ us ≡ marks ++ t ∷ behind (if c then past_marks us else u ∷ us)) × (grammar_tokens marks ≡ []) × (is_mark t.kind ≡ false))
marked_at true u us t is later h =
    let m = later h in
    (u ∷ m.marks, (ap (λ ts. u ∷ ts) m.split, ap (λ (c : Bool). if c then grammar_tokens m.marks else u ∷ grammar_tokens m.marks) is ∙ m.none, m.no_mark))
marked_at false u us t is later h =
    let same : u ≡ t = cc in ([], (ap (λ k. k ∷ us) same, refl, ap (λ k. is_mark k.kind) (sym same) ∙ is))

pub marked_front : (ts : List Token) (t : Token) → front_of (past_marks ts) ≡ Some t → Marked ts t
marked_front [] t h = absurd cc
marked_front (u ∷ us) t h =
    let m = marked_at (is_mark u.kind) u us t refl (marked_front us t) h in
    record { marks = m.0; split = m.1.0; none = m.1.1; no_mark = m.1.2 }

EndsInGrammar-last : (a : List Token) (t : Token) → is_mark t.kind ≡ false → EndsInGrammar (a ++ t ∷ [])
EndsInGrammar-last [] t h = h
EndsInGrammar-last (u ∷ []) t h = h
EndsInGrammar-last (u ∷ v ∷ a) t h = EndsInGrammar-last (v ∷ a) t h

-- the next token
pub Took-one : (ts : List Token) (t : Token) → front_of (past_marks ts) ≡ Some t → Took ts (behind (past_marks ts)) (t ∷ [])
Took-one ts t h =
    let m = marked_front ts t h in
    let one : grammar_tokens (t ∷ []) ≡ t ∷ [] = ap (λ (c : Bool). if c then [] else t ∷ []) m.no_mark in
    record {
      front = m.marks ++ t ∷ [];
      split = m.split ∙ sym (append_assoc m.marks (t ∷ []) (behind (past_marks ts)));
      ends = EndsInGrammar-last m.marks t m.no_mark;
      run_is = grammar_tokens-append m.marks (t ∷ []) ∙ ap (λ k. k ++ grammar_tokens (t ∷ [])) m.none ∙ one;
    }

shorter : (front a b run : List Token) (t : Token) → a ≡ front ++ b → grammar_tokens front ≡ t ∷ run → length b < length a
shorter [] a b run t split is = absurd cc
shorter (u ∷ front) a b run t split is =
    let whole : length a ≡ length (u ∷ front ++ b) = ap length split in omega (arith, length-append front b)

-- a step on the way makes what is left shorter
pub Took-shorter : (a b run : List Token) (t : Token) → Took a b (t ∷ run) → length b < length a
Took-shorter a b run t x = shorter x.front a b run t x.split x.run_is
