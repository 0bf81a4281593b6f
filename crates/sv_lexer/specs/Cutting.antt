-- the cutting of a text into pieces, its tokens, and its refusal where there is none
use Rattle.std.specs.Prelude.{◌≡◌, ◌+◌, ◌-◌, ◌^◌, min, ℕ, if◌then◌else◌, List, [], ◌∷◌, ◌++◌, Option, None, Some}
use Rattle.std.specs.Char.{is_ascii_graphic}
use Rattle.std.specs.List.{cons_option}
use Rattle.sv_base.specs.declared.kind.Kind.{Kind}
use Rattle.sv_base.specs.declared.kind.Kind.TheVariants as kind
use Rattle.sv_base.specs.declared.refusal.Place.{Place}
use Rattle.sv_base.specs.declared.refusal.Refusal.{Refusal}
use Rattle.sv_lexer.specs.Bytes.{line_ends}
use Rattle.sv_lexer.specs.Piece.{HasForm, IsLongest, HasNoForm, FaultOf}
use Rattle.sv_lexer.specs.declared.form.Form.{Form}
use Rattle.sv_lexer.specs.declared.form.Form.TheVariants as form
use Rattle.sv_lexer.specs.declared.token.TokenKind.{TokenKind}
use Rattle.sv_lexer.specs.declared.token.TokenKind.TheVariants as token
use Rattle.sv_lexer.specs.declared.token.Token.{Token}
use Rattle.sv_base.specs.declared.fault.Fault.{Fault}
use Rattle.sv_base.specs.Faults.{IfRefused}

-- a piece with its form
abbrev pub Piece : Type 0
Piece = Form × List ℕ

-- a piece of this form stands before this rest: no longer one does, and it is not refused
pub record Stands (f : Form) (piece rest : List ℕ) : Type 0 where
  pub has_form : HasForm f piece
  pub longest : IsLongest piece rest
  pub allowed : FaultOf f piece None

-- the text is these pieces in a row, each where it stands, and then the rest
abbrev pub CutsTo : List ℕ → List Piece → List ℕ → Type 0
CutsTo text [] rest = text ≡ rest
CutsTo text (p ∷ ps) rest = (after : List ℕ) × (text ≡ p.1 ++ after) × Stands p.0 p.1 after × CutsTo after ps rest

-- the text is cut into these pieces
abbrev pub IsCut : List ℕ → List Piece → Type 0
IsCut text pieces = CutsTo text pieces []

-- ---- tokens

-- the line is one more than the LFs before it, as far as a place can hold it
abbrev pub place_at : ℕ → ℕ → Place
place_at file ends = record { file = file; line = min (1 + ends) (2 ^ 32 - 1) }

-- what a piece is for the grammar: the spellings and the marks are tokens
abbrev pub kind_of : Form → Option TokenKind
kind_of form.Mark = Some token.Mark
kind_of form.Word = Some token.Word
kind_of form.System = Some token.System
kind_of form.Decimal = Some token.Number
kind_of form.Based = Some token.Number
kind_of form.Fill = Some token.Fill
kind_of form.Sign = Some token.Sign
kind_of form.Blank = None
kind_of form.Comment = None
kind_of form.OpenComment = None
kind_of form.Directive = None
kind_of form.OtherDirective = None

-- the text of a token: its piece as it is spelled; a mark has none
abbrev pub text_of : TokenKind → List ℕ → List ℕ
text_of token.Mark piece = []
text_of token.Word piece = piece
text_of token.System piece = piece
text_of token.Number piece = piece
text_of token.Fill piece = piece
text_of token.Sign piece = piece

-- the token that a piece is, after this many LFs
abbrev pub token_of : ℕ → ℕ → List ℕ → Option TokenKind → Option Token
token_of file ends piece None = None
token_of file ends piece (Some k) = Some (record { kind = k; text = text_of k piece; place = place_at file ends })

-- the tokens of the pieces in order, after this many LFs
abbrev pub tokens_of : ℕ → ℕ → List Piece → List Token
tokens_of file ends [] = []
tokens_of file ends (p ∷ ps) = cons_option (token_of file ends p.1 (kind_of p.0)) (tokens_of file (ends + line_ends p.1) ps)

-- the list is the tokens of the text
abbrev pub IsTokens : ℕ → List ℕ → List Token → Type 0
IsTokens file text tokens = (pieces : List Piece) × IsCut text pieces × (tokens ≡ tokens_of file 0 pieces)

-- ---- refusals

-- the LFs of the pieces
abbrev pub ends_of : List Piece → ℕ
ends_of [] = 0
ends_of (p ∷ ps) = line_ends p.1 + ends_of ps

-- a byte that no message can print has no name
abbrev pub byte_name : ℕ → List ℕ
byte_name b = if is_ascii_graphic b then b ∷ [] else []

-- No piece stands at the front of this text: the longest that has a form is refused, or no front has one.
pub data Fails (text : List ℕ) (k : Kind) (name : List ℕ) : Type 0 where
  refused : (f : Form) (piece rest : List ℕ) → text ≡ piece ++ rest → HasForm f piece → IsLongest piece rest → FaultOf f piece (Some (k, name)) → Fails text k name
  no_form : (b : ℕ) (rest : List ℕ) → text ≡ b ∷ rest → HasNoForm text → k ≡ kind.BadCharacter → name ≡ byte_name b → Fails text k name

-- the refusal stands at the first place at which no piece stands
pub record IsRefused (file : ℕ) (text : List ℕ) (refusal : Refusal) : Type 0 where
  pub pieces : List Piece
  pub rest : List ℕ
  pub cut : CutsTo text pieces rest
  pub fails : Fails rest refusal.kind refusal.name
  pub place : refusal.place ≡ place_at file (ends_of pieces)

-- a fault is that refusal; memory may run out at any text
abbrev pub IsFaultOf : ℕ → List ℕ → Fault → Type 0
IsFaultOf file text = IfRefused (IsRefused file text)
