-- What the texts of numbers and fills mean.
use Rattle.std.specs.Prelude.{ℕ, ◌+◌, ◌%◌, ◌^◌, Bool, true, false, ◌&&◌, ◌||◌, ◌==◌, nat_lt, nat_le, if◌then◌else◌, List, [], ◌∷◌, take, drop, position, Option, None, Some, codes}
use Rattle.bit_ops.specs.declared.value.TheConstants.{MAX_WIDTH}
use Rattle.sv_base.specs.Operators.{row_of}
use Rattle.sv_lexer.specs.declared.form.Base.{Base}
use Rattle.sv_lexer.specs.Bytes.{spelled, radix}
use Rattle.sv_lexer.specs.Piece.{base_of}

-- what a number means: how many bits it has, whether it is signed, and its bits as an unsigned number
pub record Literal : Type 0 where
  pub size : ℕ
  pub signed : Bool
  pub word : ℕ

-- a width that a value may have
abbrev pub is_width : ℕ → Bool
is_width w = nat_le 1 w && nat_le w MAX_WIDTH

-- digits of a radix cut to a size, where a value may have that size and a word of the greatest width holds their number
abbrev pub cut_to : ℕ → Bool → ℕ → List ℕ → Option Literal
cut_to size signed r digits =
    if is_width size && nat_lt (spelled r digits) (2 ^ MAX_WIDTH)
    then Some (record { size = size; signed = signed; word = spelled r digits % 2 ^ size }) else None

-- so of a base, where there is one
abbrev pub in_base : ℕ → Bool → Option Base → List ℕ → Option Literal
in_base size signed None digits = None
in_base size signed (Some base) digits = cut_to size signed (radix base) digits

-- a number of a size, by its base letter and its digits
abbrev pub with_base : ℕ → Bool → List ℕ → Option Literal
with_base size signed [] = None
with_base size signed (letter ∷ digits) = in_base size signed (base_of letter) digits

-- `s` in either case, which stands before the base letter of a signed number
abbrev pub is_sign_letter : ℕ → Bool
is_sign_letter b = b == 115 || b == 83

-- what stands behind the `'` of a number of a size
abbrev pub behind_quote : ℕ → List ℕ → Option Literal
behind_quote size [] = None
behind_quote size (b ∷ bs) = if is_sign_letter b then with_base size true bs else with_base size false (b ∷ bs)

-- the size that the digits before a `'` say: 32 where there are none
abbrev pub size_of : List ℕ → ℕ
size_of [] = 32
size_of (b ∷ bs) = spelled 10 (b ∷ bs)

-- a number with its first `'` at a place, or a decimal number, which is signed and has 32 bits
abbrev pub number_at : Option ℕ → List ℕ → Option Literal
number_at None text = cut_to 32 true 10 text
number_at (Some k) text = behind_quote (size_of (take k text)) (drop (k + 1) text)

-- what the text of a number that the lexer gives means (5.7.1); of other texts some mean something too, and some nothing
abbrev pub number_of : List ℕ → Option Literal
number_of text = number_at (position (λ b. b == 39) text) text

-- the fills, with whether each is of 1 or of 0 (5.7.1)
abbrev pub fill_rows : List (List ℕ × Bool)
fill_rows = (codes "'0", false) ∷ (codes "'1", true) ∷ []

-- whether a fill is of 1 or of 0, and nothing for a text that is no fill
abbrev pub fill_of : List ℕ → Option Bool
fill_of text = row_of fill_rows text
