-- what a piece of a text may be
use Rattle.std.specs.Prelude.{◌≡◌, ◌≢◌, ◌⊎◌, ◌+◌, ◌^◌, ℕ, Bool, true, false, ◌||◌, ◌==◌, nat_lt, nat_le, if◌then◌else◌, List, [], ◌∷◌, ◌++◌, length, slice_index, Option, None, Some, codes}
use Rattle.std.specs.List.{list_any}
use Rattle.std.specs.Map.{keys_of}
use Rattle.std.specs.Char.{is_ascii_digit}
use Rattle.std.specs.Str.{bytes_eq}
use Rattle.bit_ops.specs.declared.value.TheConstants.{MAX_WIDTH}
use Rattle.sv_base.specs.Operators.{unary_rows, binary_rows, refused_operators}
use Rattle.sv_base.specs.declared.name.TheConstants.{NAME_LIMIT}
use Rattle.sv_base.specs.declared.kind.Kind.{Kind}
use Rattle.sv_base.specs.declared.kind.Kind.TheVariants as kind
use Rattle.sv_base.specs.Spelling.{begins_name, continues_name}
use Rattle.sv_lexer.specs.Bytes.{is_blank, is_in_line, is_decimal_byte, radix, is_unknown, is_digit_of, is_based_byte, Each, Stops, spelled}
use Rattle.sv_lexer.specs.declared.form.Base.{Base}
use Rattle.sv_lexer.specs.declared.form.Base.TheVariants.{Binary, Octal, Decimal, Hexadecimal}
use Rattle.sv_lexer.specs.declared.form.Form.{Form}
use Rattle.sv_lexer.specs.declared.form.Form.TheVariants as form

-- ---- names and comments

-- a letter or `_`, then letters, digits, `_` and `$` (5.6)
abbrev pub IsName : List ℕ → Type 0
IsName [] = ⊥
IsName (b ∷ bs) = (begins_name b ≡ true) × Each continues_name bs

-- no `*` has a `/` after it
abbrev pub HasNoClose : List ℕ → Type 0
HasNoClose bs = (k : ℕ) → slice_index bs k ≡ 42 → slice_index bs (k + 1) ≡ 47 → ⊥

-- `//` up to the end of its line, or `/*` up to the first `*/` after it (5.4)
abbrev pub IsComment : List ℕ → List ℕ → Type 0
IsComment content piece =
    ((piece ≡ 47 ∷ 47 ∷ content) × Each is_in_line content)
    ⊎ ((piece ≡ 47 ∷ 42 ∷ content ++ 42 ∷ 47 ∷ []) × HasNoClose (content ++ 42 ∷ []))

-- blanks, `verilator`, at least one blank, `hier_block`, blanks
pub record IsMarkText (content : List ℕ) : Type 0 where
  pub before : List ℕ
  pub between : List ℕ
  pub after : List ℕ
  pub whole : content ≡ before ++ codes "verilator" ++ between ++ codes "hier_block" ++ after
  pub blank_before : Each is_blank before
  pub blank_between : Each is_blank between
  pub blank_after : Each is_blank after
  pub parted : between ≢ []

-- ---- directives

-- the directives that are skipped with the rest of their line (22)
abbrev pub is_skipped : List ℕ → Bool
is_skipped word = bytes_eq word (codes "timescale") || bytes_eq word (codes "default_nettype") || bytes_eq word (codes "resetall")

-- ---- numbers

-- digits, with `_` after the first (5.7.1)
abbrev pub IsDecimal : List ℕ → Type 0
IsDecimal [] = ⊥
IsDecimal (b ∷ bs) = (is_ascii_digit b ≡ true) × Each is_decimal_byte bs

-- digits of a base, unknown ones too, with `_` after the first, or no digit
abbrev pub IsDigits : Base → List ℕ → Type 0
IsDigits base [] = Unit {0}
IsDigits base (b ∷ bs) = (is_digit_of base b ≡ true) × Each (is_based_byte base) bs

-- the base letter, in either case
abbrev pub base_of : ℕ → Option Base
base_of b =
    if b == 98 || b == 66 then Some Binary else (if b == 111 || b == 79 then Some Octal
    else (if b == 100 || b == 68 then Some Decimal else (if b == 104 || b == 72 then Some Hexadecimal else None)))

-- `'`, an optional `s` in either case, and the base letter
abbrev pub IsHead : Base → List ℕ → Type 0
IsHead base head = (letter : ℕ) × (base_of letter ≡ Some base)
    × ((head ≡ 39 ∷ letter ∷ []) ⊎ (head ≡ 39 ∷ 115 ∷ letter ∷ []) ⊎ (head ≡ 39 ∷ 83 ∷ letter ∷ []))

-- an optional size, `'` with the base, and the digits
pub record IsBased (piece size : List ℕ) (base : Base) (digits : List ℕ) : Type 0 where
  pub head : List ℕ
  pub whole : piece ≡ size ++ head ++ digits
  pub size_form : (size ≡ []) ⊎ IsDecimal size
  pub head_form : IsHead base head
  pub digits_form : IsDigits base digits

-- a decimal number has 32 bits and is signed, so 2147483647 is its greatest (5.7.1)
abbrev pub decimal_fault : List ℕ → Option Kind
decimal_fault piece = if nat_lt 2147483647 (spelled 10 piece) then Some kind.BadNumber else None

-- some digit stands for no known value
abbrev pub has_unknown : List ℕ → Bool
has_unknown digits = list_any is_unknown digits

-- no digit, an unknown one, or a value that no word holds
abbrev pub has_bad_digits : Base → List ℕ → Bool
has_bad_digits base [] = true
has_bad_digits base (d ∷ ds) = has_unknown (d ∷ ds) || nat_le (2 ^ MAX_WIDTH) (spelled (radix base) (d ∷ ds))

-- a size of 1 to the greatest width; the value is cut to it
abbrev pub size_fault : List ℕ → Option Kind
size_fault size =
    if spelled 10 size == 0 then Some kind.BadNumber else (if nat_lt MAX_WIDTH (spelled 10 size) then Some kind.TooWide else None)

-- without a size the value has 32 bits
abbrev pub width_fault : List ℕ → Base → List ℕ → Option Kind
width_fault [] base digits = if nat_le (2 ^ 32) (spelled (radix base) digits) then Some kind.BadNumber else None
width_fault (b ∷ bs) base digits = size_fault (b ∷ bs)

-- what is wrong with a based number of this size, base and digits
abbrev pub based_fault : List ℕ → Base → List ℕ → Option Kind
based_fault size base digits = if has_bad_digits base digits then Some kind.BadNumber else width_fault size base digits

-- ---- signs

-- the signs that are no operators (5.3, 11.4.2, 11.5.1)
abbrev pub punctuation : List (List ℕ)
punctuation = codes "+:" ∷ codes "-:" ∷ codes "++" ∷ codes "--" ∷ codes "+=" ∷ codes "-=" ∷ codes "(" ∷ codes ")" ∷ codes "["
    ∷ codes "]" ∷ codes "{" ∷ codes "}" ∷ codes ";" ∷ codes ":" ∷ codes "," ∷ codes "." ∷ codes "#" ∷ codes "@" ∷ codes "?"
    ∷ codes "=" ∷ []

-- the signs: operators, those of the standard outside the subset too, and punctuation (5.3, 11.3)
abbrev pub signs : List (List ℕ)
signs = keys_of unary_rows ++ keys_of binary_rows ++ refused_operators ++ punctuation

-- one of these
unfoldable pub is_sign : List ℕ → Bool
is_sign piece = list_any (bytes_eq piece) signs

-- ---- the forms

-- What the bytes of a piece of each form are. The form alone decides: whether a number's value or a name's
-- length is allowed doesn't.
abbrev pub HasForm : Form → List ℕ → Type 0
HasForm form.Blank piece = (b : ℕ) × (piece ≡ b ∷ []) × (is_blank b ≡ true)
HasForm form.Comment piece = (content : List ℕ) × IsComment content piece × (IsMarkText content → ⊥)
HasForm form.Mark piece = (content : List ℕ) × IsComment content piece × IsMarkText content
HasForm form.OpenComment piece = (content : List ℕ) × (piece ≡ 47 ∷ 42 ∷ content) × HasNoClose content
HasForm form.Directive piece = (word : List ℕ) × (rest : List ℕ) × (piece ≡ 96 ∷ word ++ rest)
    × (is_skipped word ≡ true) × Stops continues_name rest × Each is_in_line rest
HasForm form.OtherDirective piece = (word : List ℕ) × (piece ≡ 96 ∷ word) × IsName word × (is_skipped word ≡ false)
HasForm form.Word piece = IsName piece
HasForm form.System piece = (name : List ℕ) × (piece ≡ 36 ∷ name) × IsName name
HasForm form.Decimal piece = IsDecimal piece
HasForm form.Based piece = (size : List ℕ) × (base : Base) × (digits : List ℕ) × IsBased piece size base digits
HasForm form.Fill piece = (piece ≡ codes "'0") ⊎ (piece ≡ codes "'1")
HasForm form.Sign piece = is_sign piece ≡ true

-- No longer front of the text, which is the piece and the rest, has a form.
abbrev pub IsLongest : List ℕ → List ℕ → Type 0
IsLongest piece rest = (g : Form) (more after : List ℕ) → rest ≡ more ++ after → HasForm g (piece ++ more) → more ≡ []

-- no front of the text has a form
abbrev pub HasNoForm : List ℕ → Type 0
HasNoForm text = (g : Form) (piece after : List ℕ) → text ≡ piece ++ after → HasForm g piece → ⊥

-- what is wrong with a piece, with the name that the message prints
abbrev pub PieceFault : Type 0
PieceFault = Option (Kind × List ℕ)

-- by this name
abbrev pub named : List ℕ → Option Kind → PieceFault
named name None = None
named name (Some k) = Some (k, name)

-- too long a name, named by the limit
abbrev pub length_fault : List ℕ → PieceFault
length_fault name = if nat_lt NAME_LIMIT (length name) then Some (kind.TooMany, codes "name") else None

-- What a piece of this form is refused as, or that it is not.
abbrev pub FaultOf : Form → List ℕ → PieceFault → Type 0
FaultOf form.OpenComment piece fault = fault ≡ Some (kind.OpenComment, [])
FaultOf form.OtherDirective piece fault = (word : List ℕ) × (piece ≡ 96 ∷ word) × (fault ≡ Some (kind.Unsupported, word))
FaultOf form.Word piece fault = fault ≡ length_fault piece
FaultOf form.System piece fault = (name : List ℕ) × (piece ≡ 36 ∷ name) × (fault ≡ length_fault name)
FaultOf form.Decimal piece fault = fault ≡ named piece (decimal_fault piece)
FaultOf form.Based piece fault = (size : List ℕ) × (base : Base) × (digits : List ℕ) × IsBased piece size base digits × (fault ≡ named piece (based_fault size base digits))
FaultOf form.Blank piece fault = fault ≡ None
FaultOf form.Comment piece fault = fault ≡ None
FaultOf form.Mark piece fault = fault ≡ None
FaultOf form.Directive piece fault = fault ≡ None
FaultOf form.Fill piece fault = fault ≡ None
FaultOf form.Sign piece fault = fault ≡ None
