-- What is read of a list of tokens from a place on, and what is refused there.
use Rattle.std.specs.Prelude.{◌≡◌, ◌⊎◌, ◌+◌, ◌≤◌, ℕ, false, if◌then◌else◌, List, [], ◌∷◌, ◌++◌, length, drop, codes}
use Rattle.sv_base.specs.declared.kind.Kind.TheVariants as kind
use Rattle.sv_base.specs.declared.refusal.Place.{Place}
use Rattle.sv_base.specs.declared.refusal.Refusal.{Refusal}
use Rattle.sv_lexer.specs.declared.token.Token.{Token}
use Rattle.sv_ast.specs.declared.expression.Expr.{Expr}
use Rattle.expr_parser.specs.Spelling.{is_mark, is_refused}
use Rattle.expr_parser.specs.Grammar.{Phrase, IsPhrase, tokens_of, tree_of, Reads}
use Rattle.expr_parser.specs.Nesting.{nesting, greatest_nesting}

-- the tokens of the grammar among these, which are all but the marks
abbrev pub grammar_tokens : List Token → List Token
grammar_tokens [] = []
grammar_tokens (t ∷ ts) = if is_mark t.kind then grammar_tokens ts else t ∷ grammar_tokens ts

-- the phrase begins with these tokens
pub record BeginsWith (run : List Token) (phrase : Phrase) : Type 0 where
  pub in_grammar : IsPhrase phrase
  pub tail : List Token
  pub whole : tokens_of phrase ≡ run ++ tail

-- some expression begins with these tokens
abbrev pub Begins : List Token → Type 0
Begins run = (phrase : Phrase) × BeginsWith run phrase

-- no expression begins with these tokens and the next
abbrev pub NoneGoesOn : List Token → List Token → Type 0
NoneGoesOn run [] = Unit {0}
NoneGoesOn run (t ∷ ts) = Begins (run ++ t ∷ []) → ⊥

-- the last of the tokens is no mark, and there may be none
abbrev pub EndsInGrammar : List Token → Type 0
EndsInGrammar [] = Unit {0}
EndsInGrammar (t ∷ []) = is_mark t.kind ≡ false
EndsInGrammar (t ∷ u ∷ ts) = EndsInGrammar (u ∷ ts)

-- from this place on stand these tokens, and then the rest
abbrev pub Stands : List Token → ℕ → List Token → List Token → Type 0
Stands tokens at front rest = (drop at tokens ≡ front ++ rest) × EndsInGrammar front

-- At none of the first tokens of the phrase, up to so many, is the open nesting too great, where it is depth before them.
abbrev pub IsShallow : ℕ → Phrase → ℕ → Type 0
IsShallow depth phrase n = (k : ℕ) → k ≤ n → depth + nesting phrase k ≤ greatest_nesting

-- The longest run of tokens with which an expression begins is this expression, nowhere nested too deep, and the place after
-- its last token is this one. Marks after it stay.
pub record IsRead (tokens : List Token) (at depth : ℕ) (tree : Expr) (after : ℕ) : Type 0 where
  pub front : List Token
  pub rest : List Token
  pub stands : Stands tokens at front rest
  pub place : after ≡ at + length front
  pub phrase : Phrase
  pub in_grammar : IsPhrase phrase
  pub tokens_are : tokens_of phrase ≡ grammar_tokens front
  pub tree_is : tree_of phrase ≡ tree
  pub longest : NoneGoesOn (grammar_tokens front) (grammar_tokens rest)
  pub shallow : IsShallow depth phrase (length (grammar_tokens front))

-- the place of the last token of the list, a mark counted too, or none where there is none
abbrev pub last_place : List Token → Place
last_place [] = record { file = 0; line = 0 }
last_place (t ∷ []) = t.place
last_place (t ∷ u ∷ ts) = last_place (u ∷ ts)

-- a token that does not fit: Unsupported where the standard has it outside the subset, else Unexpected
abbrev pub refusal_of : Token → Refusal
refusal_of t = record { kind = (if is_refused t then kind.Unsupported else kind.Unexpected); place = t.place; name = t.text }

-- what is refused where these tokens are left, and where the last token of the list has this place
abbrev pub refusal_at : Place → List Token → Refusal
refusal_at last [] = record { kind = kind.Unexpected; place = last; name = [] }
refusal_at last (t ∷ ts) = refusal_of t

-- The longest run of tokens with which an expression begins is no expression and nowhere nested too deep, and the token after
-- it is refused, or the end of the list.
pub record IsStuck (tokens : List Token) (at depth : ℕ) (refusal : Refusal) : Type 0 where
  pub front : List Token
  pub rest : List Token
  pub stands : Stands tokens at front rest
  pub phrase : Phrase
  pub begins : BeginsWith (grammar_tokens front) phrase
  pub none : (tree : Expr) → Reads (grammar_tokens front) tree → ⊥
  pub longest : NoneGoesOn (grammar_tokens front) (grammar_tokens rest)
  pub shallow : IsShallow depth phrase (length (grammar_tokens front))
  pub refused : refusal ≡ refusal_at (last_place tokens) (grammar_tokens rest)

-- a token at which the open nesting is one too great
abbrev pub nesting_refusal : Token → Refusal
nesting_refusal t = record { kind = kind.TooMany; place = t.place; name = codes "nesting" }

-- The open nesting is one too great at a token of the run, and at no token before it.
pub record IsTooDeep (tokens : List Token) (at depth : ℕ) (refusal : Refusal) : Type 0 where
  pub front : List Token
  pub deep : Token
  pub rest : List Token
  pub split : drop at tokens ≡ front ++ deep ∷ rest
  pub phrase : Phrase
  pub begins : BeginsWith (grammar_tokens front ++ deep ∷ []) phrase
  pub shallow : IsShallow depth phrase (length (grammar_tokens front))
  pub reached : depth + nesting phrase (length (grammar_tokens front) + 1) ≡ greatest_nesting + 1
  pub refused : refusal ≡ nesting_refusal deep

-- what is refused: the token after the run, or a token of the run that is nested too deep
abbrev pub IsRefused : List Token → ℕ → ℕ → Refusal → Type 0
IsRefused tokens at depth refusal = IsStuck tokens at depth refusal ⊎ IsTooDeep tokens at depth refusal
