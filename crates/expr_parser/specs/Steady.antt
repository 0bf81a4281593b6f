-- What reading gives where tokens are left, told by those tokens alone.
use Rattle.std.specs.Prelude.{◌≡◌, ◌≢◌, ◌⊎◌, ℕ, ◌+◌, ◌==◌, Bool, false, not, ◌&&◌, List, [], ◌∷◌, ◌++◌, length, drop, codes}
use Rattle.sv_base.specs.declared.refusal.Refusal.{Refusal}
use Rattle.sv_lexer.specs.declared.token.Token.{Token}
use Rattle.sv_ast.specs.declared.expression.Expr.{Expr}
use Rattle.sv_base.specs.declared.fault.Fault.{Fault}
use Rattle.sv_base.specs.declared.fault.Fault.TheVariants.{Refused, NoMemory}
use Rattle.expr_parser.specs.Spelling.{is_mark, is_this, binds}
use Rattle.expr_parser.specs.Grammar.{Phrase, IsPhrase, tokens_of, tree_of, Reads}
use Rattle.expr_parser.specs.Nesting.{nesting, greatest_nesting}
use Rattle.expr_parser.specs.Outcome.{grammar_tokens, BeginsWith, NoneGoesOn, EndsInGrammar, IsShallow, last_place, refusal_at, nesting_refusal}
use Rattle.expr_parser.specs.Input.{Input}

-- a token that goes on with no whole expression
unfoldable pub ends_expression : Token → Bool
ends_expression t = binds t == 0 && not (is_this (codes "?") t) && not (is_this (codes "[") t)

-- from here to there stands this expression, the longest, nowhere nested too deep
pub record ReadsFrom (i : Input) (tree : Expr) (k : Input) : Type 0 where
  pub front : List Token
  pub rest_is : i.rest ≡ front ++ k.rest
  pub ends : EndsInGrammar front
  pub not_empty : front ≢ []
  pub nested_is : k.nested ≡ i.nested
  pub last_is : k.last ≡ i.last
  pub phrase : Phrase
  pub in_grammar : IsPhrase phrase
  pub tokens_are : tokens_of phrase ≡ grammar_tokens front
  pub tree_is : tree_of phrase ≡ tree
  pub longest : NoneGoesOn (grammar_tokens front) (grammar_tokens k.rest)
  pub shallow : IsShallow i.nested phrase (length (grammar_tokens front))

-- the longest run from here is no expression, and the token after it is refused
pub record StopsAt (i : Input) (r : Refusal) : Type 0 where
  pub front : List Token
  pub rest : List Token
  pub rest_is : i.rest ≡ front ++ rest
  pub ends : EndsInGrammar front
  pub phrase : Phrase
  pub begins : BeginsWith (grammar_tokens front) phrase
  pub none : (tree : Expr) → Reads (grammar_tokens front) tree → ⊥
  pub longest : NoneGoesOn (grammar_tokens front) (grammar_tokens rest)
  pub shallow : IsShallow i.nested phrase (length (grammar_tokens front))
  pub refused : r ≡ refusal_at i.last (grammar_tokens rest)

-- a token of the run from here is the first that is nested too deep
pub record TooDeepAt (i : Input) (r : Refusal) : Type 0 where
  pub front : List Token
  pub deep : Token
  pub rest : List Token
  pub rest_is : i.rest ≡ front ++ deep ∷ rest
  pub no_mark : is_mark deep.kind ≡ false
  pub phrase : Phrase
  pub begins : BeginsWith (grammar_tokens front ++ deep ∷ []) phrase
  pub shallow : IsShallow i.nested phrase (length (grammar_tokens front))
  pub reached : i.nested + nesting phrase (length (grammar_tokens front) + 1) ≡ greatest_nesting + 1
  pub refused : r ≡ nesting_refusal deep

-- what is refused from here: the token after the run, or a token of the run that is nested too deep
abbrev pub IsRefusedAt : Input → Refusal → Type 0
IsRefusedAt i r = StopsAt i r ⊎ TooDeepAt i r

-- that refusal; the definition of reading never runs out of memory
abbrev pub RefusesAt : Input → Fault → Type 0
RefusesAt i (Refused r) = IsRefusedAt i r
RefusesAt i NoMemory = ⊥

-- what is left from this place on, at this open nesting
abbrev pub input_at : List Token → ℕ → ℕ → Input
input_at tokens at depth = record { rest = drop at tokens; nested = depth; last = last_place tokens }
