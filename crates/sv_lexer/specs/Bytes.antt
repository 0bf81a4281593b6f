-- classes of bytes, by their ASCII codes
use Rattle.std.specs.Prelude.{◌≡◌, ℕ, ◌-◌, ◌+◌, ◌*◌, ◌^◌, Bool, true, false, not, ◌||◌, ◌==◌, nat_lt, if◌then◌else◌, List, [], ◌∷◌}
use Rattle.std.specs.Char.{is_ascii_digit}
use Rattle.std.specs.Int.{is_in_range}
use Rattle.sv_base.specs.Spelling.{continues_name}
use Rattle.sv_lexer.specs.declared.run.Class.{Class}
use Rattle.sv_lexer.specs.declared.run.Class.TheVariants as class
use Rattle.sv_lexer.specs.declared.form.Base.{Base}
use Rattle.sv_lexer.specs.declared.form.Base.TheVariants.{Binary, Octal, Decimal, Hexadecimal}

-- space, tab, LF, FF and CR (5.3)
abbrev pub is_blank : ℕ → Bool
is_blank b = b == 32 || b == 9 || b == 10 || b == 12 || b == 13

-- a byte of a line, which is any but LF
abbrev pub is_in_line : ℕ → Bool
is_in_line b = not (b == 10)

-- a digit, or the `_` between digits (5.7.1)
abbrev pub is_decimal_byte : ℕ → Bool
is_decimal_byte b = is_ascii_digit b || b == 95

-- how many digits a base has
abbrev pub radix : Base → ℕ
radix Binary = 2
radix Octal = 8
radix Decimal = 10
radix Hexadecimal = 16

-- what a digit counts in its place, in either case, and 16 for a byte that is no digit of any base
abbrev pub digit_value : ℕ → ℕ
digit_value b =
    if is_ascii_digit b then b - 48 else (if is_in_range 97 102 b then b - 87 else (if is_in_range 65 70 b then b - 55 else 16))

-- `x` and `z` in either case and `?`, the digits that stand for no known value
abbrev pub is_unknown : ℕ → Bool
is_unknown b = b == 120 || b == 88 || b == 122 || b == 90 || b == 63

-- a digit of this base, an unknown one too
abbrev pub is_digit_of : Base → ℕ → Bool
is_digit_of base b = nat_lt (digit_value b) (radix base) || is_unknown b

-- a digit of this base, or the `_` between digits
abbrev pub is_based_byte : Base → ℕ → Bool
is_based_byte base b = is_digit_of base b || b == 95

-- the classes that runs are made of
abbrev pub is_in : Class → ℕ → Bool
is_in class.Blank b = is_blank b
is_in class.Line b = is_in_line b
is_in class.Name b = continues_name b
is_in class.Decimal b = is_decimal_byte b
is_in (class.Based base) b = is_based_byte base b

-- each byte passes the test
abbrev pub Each : (ℕ → Bool) → List ℕ → Type 0
Each test [] = Unit {0}
Each test (b ∷ bs) = (test b ≡ true) × Each test bs

-- the text ends here, or goes on with a byte that fails the test
abbrev pub Stops : (ℕ → Bool) → List ℕ → Type 0
Stops test [] = Unit {0}
Stops test (b ∷ bs) = test b ≡ false

-- how many digits there are, with each `_` passed over
abbrev pub digits_in : List ℕ → ℕ
digits_in [] = 0
digits_in (b ∷ bs) = if b == 95 then digits_in bs else 1 + digits_in bs

-- the number that digits spell: each counts its value times the radix to the power of the digits after it (5.7.1)
abbrev pub spelled : ℕ → List ℕ → ℕ
spelled radix [] = 0
spelled radix (b ∷ bs) = if b == 95 then spelled radix bs else digit_value b * radix ^ digits_in bs + spelled radix bs

-- how many LFs there are
abbrev pub line_ends : List ℕ → ℕ
line_ends [] = 0
line_ends (b ∷ bs) = if b == 10 then 1 + line_ends bs else line_ends bs
