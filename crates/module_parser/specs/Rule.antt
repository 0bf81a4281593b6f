-- What the rules of the grammar are made of. A rule says which tokens are which tree, with the token that stands behind them.
use Rattle.std.specs.Prelude.{◌≡◌, ◌+◌, ℕ, Bool, true, false, if◌then◌else◌, List, [], ◌∷◌, ◌++◌, Option, Some, None}
use Rattle.sv_lexer.specs.declared.token.Token.{Token}
use Rattle.sv_ast.specs.declared.expression.Id.{Id}
use Rattle.sv_ast.specs.declared.expression.Expr.{Expr}
use Rattle.expr_parser.specs.Spelling.{is_mark}
use Rattle.expr_parser.specs.Grammar.{Phrase, IsPhrase, tokens_of, tree_of, id_of}
use Rattle.expr_parser.specs.Nesting.{nesting}
use Rattle.expr_parser.specs.Outcome.{NoneGoesOn, grammar_tokens}

-- a token of the grammar, the marks before it, and the nesting that the rule itself has open at it
pub record Piece : Type 0 where
  pub marks : List Token
  pub token : Token
  pub depth : ℕ

-- the tokens of a text, marks among them
abbrev pub written : List Piece → List Token
written [] = []
written (p ∷ ps) = p.marks ++ p.token ∷ written ps

-- those of the grammar
abbrev pub spoken : List Piece → List Token
spoken [] = []
spoken (p ∷ ps) = p.token ∷ spoken ps

-- the same text with one more open around it
abbrev pub deeper : List Piece → List Piece
deeper [] = []
deeper (p ∷ ps) = record p { depth = p.depth + 1 } ∷ deeper ps

-- the first token of a text, or the one behind it where it is empty
abbrev pub lead : List Piece → Option Token → Option Token
lead [] next = next
lead (p ∷ ps) next = Some p.token

-- ---- rules

abbrev pub Rule : Type 0 → Type 1
Rule A = A → List Piece → Option Token → Type 0

-- whether a token is of some sort
abbrev pub Test : Type 0
Test = Token → Bool

-- whether there is a token of that sort
abbrev pub meets : Test → Option Token → Bool
meets test None = false
meets test (Some t) = test t

-- this tree, of no token
abbrev pub give : {A : Type 0} → A → Rule A
give a = λ tree text next. (tree ≡ a) × (text ≡ [])

pub record IsOne (test : Test) (token : Token) (text : List Piece) : Type 0 where
  pub marks : List Token
  pub are_marks : grammar_tokens marks ≡ []
  pub no_mark : is_mark token.kind ≡ false
  pub passes : test token ≡ true
  pub is : text ≡ record { marks = marks; token = token; depth = 0 } ∷ []

-- one token of that sort, as the tree keeps it
abbrev pub one : Test → Rule Id
one test = λ id text next. (token : Token) × IsOne test token text × (id ≡ id_of token)

-- one token of that sort, of which the tree keeps nothing
abbrev pub skip : Test → Rule (Unit {0})
skip test = λ _ text next. (token : Token) × IsOne test token text

-- one after the other, where the second may depend on the tree of the first
pub record Joined {A B : Type 0} (r : Rule A) (f : A → Rule B) (tree : B) (text : List Piece) (next : Option Token) : Type 0 where
  pub first : A
  pub front : List Piece
  pub back : List Piece
  pub is : text ≡ front ++ back
  pub begins : r first front (lead back next)
  pub goes_on : f first tree back next

infixl 10 ◌>>=◌
abbrev pub ◌>>=◌ : {A B : Type 0} → Rule A → (A → Rule B) → Rule B
r >>= f = λ tree text next. Joined r f tree text next

infixl 10 ◌>>◌
abbrev pub ◌>>◌ : {A B : Type 0} → Rule A → Rule B → Rule B
r >> s = r >>= (λ _. s)

infixr 11 ◌<$>◌
abbrev pub ◌<$>◌ : {A B : Type 0} → (A → B) → Rule A → Rule B
f <$> r = r >>= (λ x. give (f x))

abbrev pub choose : Bool → Type 0 → Type 0 → Type 0
choose true a b = a
choose false a b = b

-- the first rule where a token of that sort comes, else the second
abbrev pub when : {A : Type 0} → Test → Rule A → Rule A → Rule A
when test first second = λ tree text next. choose (meets test (lead text next)) (first tree text next) (second tree text next)

-- one more of a list, and what comes behind it
pub record Another {A : Type 0} (test : Test) (r : Rule A) (more : List Piece → Option Token → Type 0) (tree : A) (text : List Piece) (next : Option Token) : Type 0 where
  pub comes : meets test (lead text next) ≡ true
  pub front : List Piece
  pub back : List Piece
  pub is : text ≡ front ++ back
  pub begins : r tree front (lead back next)
  pub goes_on : more back next

-- as many as tokens of that sort come, each of a rule that may depend on those before it
abbrev pub many_behind : {A : Type 0} → Test → (List A → Rule A) → List A → List A → List Piece → Option Token → Type 0
many_behind test f found [] = λ text next. (text ≡ []) × (meets test next ≡ false)
many_behind test f found (x ∷ xs) = Another test (f found) (many_behind test f (found ++ x ∷ []) xs) x

abbrev pub many : {A : Type 0} → Test → (List A → Rule A) → Rule (List A)
many test f = many_behind test f []

-- one more is open at each of its tokens
pub record Nested {A : Type 0} (r : Rule A) (tree : A) (text : List Piece) (next : Option Token) : Type 0 where
  pub inner : List Piece
  pub is : text ≡ deeper inner
  pub inside : r tree inner next

-- what opens with a token of that sort, and is open from it on until it ends
abbrev pub opened : {A : Type 0} → Test → (Id → Rule A) → Rule A
opened test f = λ tree text next. Nested (one test >>= f) tree text next

-- the marks and the token of each piece belong to the grammar as they stand
abbrev pub AreMarked : List Piece → Type 0
AreMarked [] = Unit {0}
AreMarked (p ∷ ps) = (grammar_tokens p.marks ≡ []) × (is_mark p.token.kind ≡ false) × AreMarked ps

-- the open nesting at each token of a phrase, from its k-th on
abbrev pub AreNested : Phrase → ℕ → List Piece → Type 0
AreNested phrase k [] = Unit {0}
AreNested phrase k (p ∷ ps) = (p.depth ≡ nesting phrase (k + 1)) × AreNested phrase (k + 1) ps

abbrev pub as_list : Option Token → List Token
as_list None = []
as_list (Some t) = t ∷ []

-- an expression, which is the longest that stands there
pub record IsExpression (tree : Expr) (text : List Piece) (next : Option Token) : Type 0 where
  pub phrase : Phrase
  pub in_grammar : IsPhrase phrase
  pub tokens_are : tokens_of phrase ≡ spoken text
  pub tree_is : tree_of phrase ≡ tree
  pub marked : AreMarked text
  pub nested : AreNested phrase 0 text
  pub longest : NoneGoesOn (spoken text) (as_list next)

abbrev pub expression : Rule Expr
expression = IsExpression

abbrev pub is_nil : List Token → Bool
is_nil [] = true
is_nil (t ∷ ts) = false

-- whether a mark stands before one of the tokens
abbrev pub has_mark : List Piece → Bool
has_mark [] = false
has_mark (p ∷ ps) = if is_nil p.marks then has_mark ps else true

-- a tree, and whether a mark stands in it
abbrev pub watched : {A : Type 0} → Rule A → Rule (A × Bool)
watched r = λ p text next. r p.0 text next × (p.1 ≡ has_mark text)
