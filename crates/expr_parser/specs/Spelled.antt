-- The texts of tokens and trees are spellings that the language has where they stand.
use Rattle.std.specs.Prelude.{◌≡◌, ◌⊎◌, ℕ, List, [], All, None}
use Rattle.sv_lexer.specs.Piece.{HasForm, FaultOf}
use Rattle.sv_lexer.specs.declared.form.Form.{Form}
use Rattle.sv_lexer.specs.declared.form.Form.TheVariants as form
use Rattle.sv_lexer.specs.declared.token.TokenKind.{TokenKind}
use Rattle.sv_lexer.specs.declared.token.TokenKind.TheVariants as kind
use Rattle.sv_lexer.specs.declared.token.Token.{Token}
use Rattle.sv_ast.specs.declared.expression.Expr.{Expr}
use Rattle.expr_parser.specs.Grammar.{Reads}

-- a piece of this form that is not refused
abbrev pub IsAllowed : Form → List ℕ → Type 0
IsAllowed f text = HasForm f text × FaultOf f text None

-- a spelling that the language has for tokens of this kind
abbrev pub IsSpelling : TokenKind → List ℕ → Type 0
IsSpelling kind.Word text = IsAllowed form.Word text
IsSpelling kind.System text = IsAllowed form.System text
IsSpelling kind.Number text = IsAllowed form.Decimal text ⊎ IsAllowed form.Based text
IsSpelling kind.Fill text = IsAllowed form.Fill text
IsSpelling kind.Sign text = IsAllowed form.Sign text
IsSpelling kind.Mark text = text ≡ []

-- each token is spelled as one of its kind
abbrev pub AreSpelled : List Token → Type 0
AreSpelled tokens = All (λ t. IsSpelling t.kind t.text) tokens

-- An expression that can be written: its texts are spellings that may stand where they stand, and each of its lists is
-- one that the grammar has there. Parentheses leave no node, so every grouping can be written.
pub record IsWritten (tree : Expr) : Type 0 where
  pub tokens : List Token
  pub spelled : AreSpelled tokens
  pub reads : Reads tokens tree
