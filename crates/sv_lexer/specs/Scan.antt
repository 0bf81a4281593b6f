-- what the steps of a cut find at the front of a text
use Rattle.std.specs.Prelude.{◌≡◌, ◌⊎◌, ◌==◌, ◌+◌, ◌<◌, ◌≤◌, ℕ, true, if◌then◌else◌, List, [], ◌∷◌, ◌++◌, length, take, drop, slice_index, Option, None, Some}
use Rattle.std.specs.Char.{is_ascii_digit}
use Rattle.sv_base.specs.Spelling.{begins_name, continues_name}
use Rattle.sv_lexer.specs.Bytes.{is_blank, is_digit_of, is_based_byte, Each, Stops}
use Rattle.sv_lexer.specs.Piece.{HasForm, IsLongest, IsName, IsHead, IsDigits, IsMarkText, PieceFault, is_sign}
use Rattle.sv_lexer.specs.declared.form.Base.{Base}
use Rattle.sv_lexer.specs.declared.form.Form.{Form}
use Rattle.sv_lexer.specs.declared.form.Form.TheVariants as form
use Rattle.std.specs.List.{cons_option}
use Rattle.sv_lexer.specs.Cutting.{Piece, Stands, CutsTo, kind_of, token_of, tokens_of, ends_of}
use Rattle.sv_base.specs.declared.kind.Kind.{Kind}
use Rattle.sv_base.specs.declared.refusal.Place.{Place}
use Rattle.sv_base.specs.declared.fault.Fault.{Fault}
use Rattle.sv_base.specs.declared.fault.Fault.TheVariants as lex_fault
use Rattle.sv_lexer.specs.declared.token.Token.{Token}
use Rattle.sv_lexer.specs.declared.fault.Flaw.{Flaw}
use Rattle.sv_lexer.specs.declared.found.Found.{Found}
use Rattle.sv_lexer.specs.declared.lead.Lead.{Lead}
use Rattle.sv_lexer.specs.declared.lead.Lead.TheVariants.{Blank, Letter, Digit, Dollar, Quote, Slash, Backquote, Sign, Other}

-- what a first byte leads to
unfoldable pub lead_of : ℕ → Lead
lead_of b =
    if begins_name b then Letter else (if is_ascii_digit b then Digit else (if is_blank b then Blank
    else (if b == 36 then Dollar else (if b == 39 then Quote else (if b == 47 then Slash
    else (if b == 96 then Backquote else (if is_sign (b ∷ []) then Sign else Other)))))))

-- what is known of a byte that leads there
abbrev pub LeadIs : Lead → ℕ → Type 0
LeadIs Letter b = begins_name b ≡ true
LeadIs Digit b = is_ascii_digit b ≡ true
LeadIs Blank b = is_blank b ≡ true
LeadIs Dollar b = b ≡ 36
LeadIs Quote b = b ≡ 39
LeadIs Slash b = b ≡ 47
LeadIs Backquote b = b ≡ 96
LeadIs Sign b = is_sign (b ∷ []) ≡ true
LeadIs Other b = Unit {0}

-- the piece has this form, and no longer front of the text has any
pub record IsFound (f : Form) (piece rest : List ℕ) : Type 0 where
  pub has_form : HasForm f piece
  pub longest : IsLongest piece rest

-- a comment with this content is a mark or none, as this form says
abbrev pub IsCommentForm : Form → List ℕ → Type 0
IsCommentForm f content = ((f ≡ form.Mark) × IsMarkText content) ⊎ ((f ≡ form.Comment) × (IsMarkText content → ⊥))

-- the part of a based number after its size
abbrev pub IsTail : List ℕ → Type 0
IsTail tail = (base : Base) × (head : List ℕ) × (digits : List ℕ) × (tail ≡ head ++ digits) × IsHead base head × IsDigits base digits

-- the longest such part at the front of a text
pub record IsLongestTail (tail rest : List ℕ) : Type 0 where
  pub is_tail : IsTail tail
  pub longest : (more after : List ℕ) → rest ≡ more ++ after → IsTail (tail ++ more) → more ≡ []

-- the text begins with no such part
abbrev pub HasNoHead : List ℕ → Type 0
HasNoHead text = (base : Base) (head after : List ℕ) → text ≡ head ++ after → IsHead base head → ⊥

-- so many bytes at the front of the text are its longest piece
pub record IsFoundAt (found : Found) (text : List ℕ) : Type 0 where
  pub some : 0 < found.len
  pub within : found.len ≤ length text
  pub is_found : IsFound found.form (take found.len text) (drop found.len text)

-- so many bytes at the front are a name, which ends there
pub record IsNameAt (n : ℕ) (text : List ℕ) : Type 0 where
  pub some : 0 < n
  pub within : n ≤ length text
  pub is_name : IsName (take n text)
  pub stops : Stops continues_name (drop n text)

-- the first `*/` of the text begins here
pub record ClosesAt (at : ℕ) (text : List ℕ) : Type 0 where
  pub within : at + 1 < length text
  pub star : slice_index text at ≡ 42
  pub slash : slice_index text (at + 1) ≡ 47
  pub first : (k : ℕ) → k < at → slice_index text k ≡ 42 → slice_index text (k + 1) ≡ 47 → ⊥

-- where the digits of a base stop
abbrev pub DigitsStop : Base → List ℕ → List ℕ → Type 0
DigitsStop base [] rest = Stops (is_digit_of base) rest
DigitsStop base (d ∷ ds) rest = Stops (is_based_byte base) rest

-- so many bytes at the front are the longest part of a based number after its size
pub record IsTailAt (n : ℕ) (text : List ℕ) : Type 0 where
  pub within : n ≤ length text
  pub longest_tail : IsLongestTail (take n text) (drop n text)

-- so many bytes at the front are the part with the base
pub record IsHeadAt (base : Base) (n : ℕ) (text : List ℕ) : Type 0 where
  pub within : n ≤ length text
  pub is_head : IsHead base (take n text)

-- the text is so many blanks and then the rest, which begins with none
pub record IsBlankRun (n : ℕ) (text rest : List ℕ) : Type 0 where
  pub blanks : List ℕ
  pub whole : text ≡ blanks ++ rest
  pub count : n ≡ length blanks
  pub blank : Each is_blank blanks
  pub stops : Stops is_blank rest

-- a flaw that was found, as a fault of the definition
abbrev pub fault_of : Option Flaw → PieceFault
fault_of None = None
fault_of (Some flaw) = Some (flaw.kind, flaw.name.now)

-- ---- the loop

-- the tokens that a piece of this form adds, none or one, after this many LFs
abbrev pub added : ℕ → ℕ → Form → List ℕ → List Token
added file ends f piece = cons_option (token_of file ends piece (kind_of f)) []

-- these are the tokens of the pieces before this rest, which have this many LFs
pub record IsSoFar (file : ℕ) (text rest : List ℕ) (tokens : List Token) (ends : ℕ) : Type 0 where
  pub pieces : List Piece
  pub cut : CutsTo text pieces rest
  pub made : tokens ≡ tokens_of file 0 pieces
  pub counted : ends ≡ ends_of pieces

-- so many bytes at the front of the text are the piece that stands there
pub record StandsAt (found : Found) (text : List ℕ) : Type 0 where
  pub some : 0 < found.len
  pub within : found.len ≤ length text
  pub stands : Stands found.form (take found.len text) (drop found.len text)

-- the fault says this, unless memory ran out
abbrev pub Says : Kind → List ℕ → Place → Fault → Type 0
Says k name place (lex_fault.Refused refusal) = (refusal.kind ≡ k) × (refusal.name ≡ name) × (refusal.place ≡ place)
Says k name place lex_fault.NoMemory = Unit {0}
