-- The grammar of expressions (IEEE 1800-2017, 11.2 to 11.4): which tokens are which expression.
use Rattle.std.specs.Prelude.{◌≡◌, ◌+◌, ◌<◌, ◌≤◌, ℕ, true, List, [], ◌∷◌, ◌++◌, codes}
use Rattle.sv_base.specs.declared.operator.TheConstants.{TIGHTEST}
use Rattle.sv_base.specs.declared.refusal.Place.{Place}
use Rattle.sv_lexer.specs.declared.token.TokenKind.TheVariants as kind
use Rattle.sv_lexer.specs.declared.token.Token.{Token}
use Rattle.sv_ast.specs.declared.expression.Id.{Id}
use Rattle.sv_ast.specs.declared.expression.Sel.{Sel}
use Rattle.sv_ast.specs.declared.expression.Sel.TheVariants as sel
use Rattle.sv_ast.specs.declared.expression.Expr.{Expr}
use Rattle.sv_ast.specs.declared.expression.Expr.TheVariants as e
use Rattle.expr_parser.specs.Spelling.{is_identifier, is_function, is_unary, is_this, binds, left_least, right_least}

-- what stands between the two expressions of a select: `:`, `+:` or `-:` (11.5.1)
pub data Between : Type 0 where
  down_to : Between
  up_from : Between
  down_from : Between

-- A phrase is what some tokens are to the grammar, token by token, with one case for each case of the grammar. It keeps
-- its signs and its parentheses. A name with a select has one case for one position and one for two expressions.
mutual
  pub data Phrase : Type 0 where
    number : Token → Phrase
    fill : Token → Phrase
    name : Token → Phrase
    selected : (id opens : Token) → Phrase → (closes : Token) → Phrase
    ranged : Between → (id opens : Token) → Phrase → (between : Token) → Phrase → (closes : Token) → Phrase
    group : (opens : Token) → Phrase → (closes : Token) → Phrase
    concat : (opens : Token) → Phrases → (closes : Token) → Phrase
    repeat : (opens : Token) → Phrase → (inner : Token) → Phrases → (done closes : Token) → Phrase
    call : (function opens : Token) → Phrase → (closes : Token) → Phrase
    unary : (sign : Token) → Phrase → Phrase
    binary : Phrase → (sign : Token) → Phrase → Phrase
    choice : Phrase → (question : Token) → Phrase → (colon : Token) → Phrase → Phrase

  -- one or more expressions with commas between
  pub data Phrases : Type 0 where
    only : Phrase → Phrases
    more : Phrase → (comma : Token) → Phrases → Phrases

-- ---- the tokens of a phrase, in order

abbrev mutual
  pub tokens_of : Phrase → List Token
  tokens_of (number t) = t ∷ []
  tokens_of (fill t) = t ∷ []
  tokens_of (name t) = t ∷ []
  tokens_of (selected id opens p closes) = id ∷ opens ∷ tokens_of p ++ closes ∷ []
  tokens_of (ranged b id opens p between q closes) = id ∷ opens ∷ tokens_of p ++ between ∷ tokens_of q ++ closes ∷ []
  tokens_of (group opens p closes) = opens ∷ tokens_of p ++ closes ∷ []
  tokens_of (concat opens ps closes) = opens ∷ all_tokens_of ps ++ closes ∷ []
  tokens_of (repeat opens p inner ps done closes) = opens ∷ tokens_of p ++ inner ∷ all_tokens_of ps ++ done ∷ closes ∷ []
  tokens_of (call function opens p closes) = function ∷ opens ∷ tokens_of p ++ closes ∷ []
  tokens_of (unary sign p) = sign ∷ tokens_of p
  tokens_of (binary p sign q) = tokens_of p ++ sign ∷ tokens_of q
  tokens_of (choice p question q colon r) = tokens_of p ++ question ∷ tokens_of q ++ colon ∷ tokens_of r

  pub all_tokens_of : Phrases → List Token
  all_tokens_of (only p) = tokens_of p
  all_tokens_of (more p comma ps) = tokens_of p ++ comma ∷ all_tokens_of ps

-- ---- the tree of a phrase: parentheses leave no node

-- a token as the tree keeps it
abbrev pub id_of : Token → Id
id_of token = record { name = token.text; place = token.place }

-- a select of two expressions
abbrev pub range_of : Between → Place → Expr → Expr → Sel
range_of down_to place a b = sel.Part place a b
range_of up_from place a b = sel.Up place a b
range_of down_from place a b = sel.Down place a b

abbrev mutual
  pub tree_of : Phrase → Expr
  tree_of (number t) = e.Number (id_of t)
  tree_of (fill t) = e.Fill (id_of t)
  tree_of (name t) = e.Read (id_of t) []
  tree_of (selected id opens p closes) = e.Read (id_of id) (sel.Bit opens.place (tree_of p) ∷ [])
  tree_of (ranged b id opens p between q closes) = e.Read (id_of id) (range_of b opens.place (tree_of p) (tree_of q) ∷ [])
  tree_of (group opens p closes) = tree_of p
  tree_of (concat opens ps closes) = e.Concat opens.place (trees_of ps)
  tree_of (repeat opens p inner ps done closes) = e.Repeat opens.place (tree_of p) (trees_of ps)
  tree_of (call function opens p closes) = e.System (id_of function) (tree_of p)
  tree_of (unary sign p) = e.Unary (id_of sign) (tree_of p)
  tree_of (binary p sign q) = e.Binary (id_of sign) (tree_of p) (tree_of q)
  tree_of (choice p question q colon r) = e.Choice (id_of question) (tree_of p) (tree_of q) (tree_of r)

  pub trees_of : Phrases → List Expr
  trees_of (only p) = tree_of p ∷ []
  trees_of (more p comma ps) = tree_of p ∷ trees_of ps

-- ---- which phrases the grammar has

-- what has a sign before an operand holds tighter than every operator between two
abbrev pub signed_strength : ℕ
signed_strength = TIGHTEST + 1

-- what has no sign outside brackets holds tightest
abbrev pub full_strength : ℕ
full_strength = TIGHTEST + 2

-- how tightly a phrase holds together: `? :` least, then the operators between two operands, a sign before one, and what has
-- no sign outside brackets
abbrev pub strength : Phrase → ℕ
strength (choice p question q colon r) = 0
strength (binary p sign q) = binds sign
strength (unary sign p) = signed_strength
strength _ = full_strength

-- the sign between the two expressions of a select
abbrev pub between_text : Between → List ℕ
between_text down_to = codes ":"
between_text up_from = codes "+:"
between_text down_from = codes "-:"

-- this sign stands there
abbrev pub Is : List ℕ → Token → Type 0
Is text token = is_this text token ≡ true

-- Each token is one that the grammar has in its place, and the operators are grouped as they bind: those between two
-- operands of one level as the level is, `? :` to the right (11.3.2).
abbrev mutual
  pub IsPhrase : Phrase → Type 0
  IsPhrase (number t) = t.kind ≡ kind.Number
  IsPhrase (fill t) = t.kind ≡ kind.Fill
  IsPhrase (name t) = is_identifier t ≡ true
  IsPhrase (selected id opens p closes) = (is_identifier id ≡ true) × Is (codes "[") opens × IsPhrase p × Is (codes "]") closes
  IsPhrase (ranged b id opens p between q closes) =
      (is_identifier id ≡ true) × Is (codes "[") opens × IsPhrase p × Is (between_text b) between × IsPhrase q × Is (codes "]") closes
  IsPhrase (group opens p closes) = Is (codes "(") opens × IsPhrase p × Is (codes ")") closes
  IsPhrase (concat opens ps closes) = Is (codes "{") opens × ArePhrases ps × Is (codes "}") closes
  IsPhrase (repeat opens p inner ps done closes) =
      Is (codes "{") opens × IsPhrase p × Is (codes "{") inner × ArePhrases ps × Is (codes "}") done × Is (codes "}") closes
  IsPhrase (call function opens p closes) = (is_function function ≡ true) × Is (codes "(") opens × IsPhrase p × Is (codes ")") closes
  IsPhrase (unary sign p) = (is_unary sign ≡ true) × IsPhrase p × (signed_strength ≤ strength p)
  IsPhrase (binary p sign q) =
      (0 < binds sign) × IsPhrase p × (left_least sign ≤ strength p) × IsPhrase q × (right_least sign ≤ strength q)
  IsPhrase (choice p question q colon r) =
      Is (codes "?") question × IsPhrase p × (0 < strength p) × IsPhrase q × Is (codes ":") colon × IsPhrase r

  pub ArePhrases : Phrases → Type 0
  ArePhrases (only p) = IsPhrase p
  ArePhrases (more p comma ps) = IsPhrase p × Is (codes ",") comma × ArePhrases ps

-- the tokens are this expression
pub record Reads (tokens : List Token) (tree : Expr) : Type 0 where
  pub phrase : Phrase
  pub in_grammar : IsPhrase phrase
  pub tokens_are : tokens_of phrase ≡ tokens
  pub tree_is : tree_of phrase ≡ tree
