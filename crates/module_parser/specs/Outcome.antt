-- What is read of the tokens of a file, and what is refused there.
use Rattle.std.specs.Prelude.{◌≡◌, ◌⊎◌, ◌≤◌, ◌+◌, false, List, [], ◌∷◌, ◌++◌, None}
use Rattle.sv_base.specs.declared.refusal.Refusal.{Refusal}
use Rattle.sv_lexer.specs.declared.token.Token.{Token}
use Rattle.sv_ast.specs.declared.module.Module.{Module}
use Rattle.expr_parser.specs.Spelling.{is_mark}
use Rattle.expr_parser.specs.Spelled.{AreSpelled}
use Rattle.expr_parser.specs.Nesting.{greatest_nesting}
use Rattle.expr_parser.specs.Outcome.{grammar_tokens, last_place, refusal_at, nesting_refusal}
use Rattle.module_parser.specs.Rule.{Piece, written}
use Rattle.module_parser.specs.Grammar.{file}

-- the tokens are these modules, and marks may stand behind the last
pub record IsFile (tokens : List Token) (modules : List Module) : Type 0 where
  pub text : List Piece
  pub marks : List Token
  pub in_grammar : file modules text None
  pub are_marks : grammar_tokens marks ≡ []
  pub tokens_are : tokens ≡ written text ++ marks

-- some file begins with this text
pub record IsBegun (seen : List Piece) : Type 0 where
  pub modules : List Module
  pub more : List Piece
  pub in_grammar : file modules (seen ++ more) None

-- some file begins with these tokens, marks among them
pub record BeginsWith (run : List Token) : Type 0 where
  pub modules : List Module
  pub text : List Piece
  pub in_grammar : file modules text None
  pub tail : List Token
  pub whole : written text ≡ run ++ tail

-- the open nesting is nowhere too great in this text
abbrev pub IsShallow : List Piece → Type 0
IsShallow [] = Unit {0}
IsShallow (p ∷ ps) = (p.depth ≤ greatest_nesting) × IsShallow ps

-- The tokens are these modules, nowhere nested too deep.
pub record IsRead (tokens : List Token) (modules : List Module) : Type 0 where
  pub text : List Piece
  pub marks : List Token
  pub in_grammar : file modules text None
  pub are_marks : grammar_tokens marks ≡ []
  pub tokens_are : tokens ≡ written text ++ marks
  pub shallow : IsShallow text

-- the first token of the grammar among these, behind marks
pub record ComesNext (rest : List Token) (token : Token) : Type 0 where
  pub marks : List Token
  pub behind : List Token
  pub are_marks : grammar_tokens marks ≡ []
  pub no_mark : is_mark token.kind ≡ false
  pub is : rest ≡ marks ++ token ∷ behind

-- Some file begins with this text, which is nowhere nested too deep, and none with it and the next token, or the text ends
-- there and is no file. That token is refused, or the end of the list.
pub record IsStuck (tokens : List Token) (refusal : Refusal) : Type 0 where
  pub seen : List Piece
  pub rest : List Token
  pub tokens_are : tokens ≡ written seen ++ rest
  pub begun : IsBegun seen
  pub shallow : IsShallow seen
  pub none_goes_on : (token : Token) → (next : ComesNext rest token) → BeginsWith (written seen ++ next.marks ++ token ∷ []) → ⊥
  pub none_ends : grammar_tokens rest ≡ [] → (modules : List Module) → IsFile tokens modules → ⊥
  pub refused : refusal ≡ refusal_at (last_place tokens) (grammar_tokens rest)

-- Some file begins with this text and the next token, at which the open nesting is one too great, and nowhere before it.
pub record IsTooDeep (tokens : List Token) (refusal : Refusal) : Type 0 where
  pub seen : List Piece
  pub deep : Piece
  pub rest : List Token
  pub tokens_are : tokens ≡ written (seen ++ deep ∷ []) ++ rest
  pub begun : IsBegun (seen ++ deep ∷ [])
  pub shallow : IsShallow seen
  pub reached : deep.depth ≡ greatest_nesting + 1
  pub refused : refusal ≡ nesting_refusal deep.token

-- what is refused: the first token after which no text of the grammar goes on, or the first that is nested too deep
abbrev pub IsRefused : List Token → Refusal → Type 0
IsRefused tokens refusal = IsStuck tokens refusal ⊎ IsTooDeep tokens refusal

-- Modules that some file gives whose tokens are spelled as the lexer spells them, so that each name in them is an identifier
-- and each list is one that the grammar has in its place.
pub record AreWritten (modules : List Module) : Type 0 where
  pub tokens : List Token
  pub spelled : AreSpelled tokens
  pub is_file : IsFile tokens modules
