use Rattle.std.specs.Prelude.{ℕ, ◌+◌, ◌-◌, ◌*◌, ◌/◌, ◌%◌, ◌^◌, ℤ, pos, neg_ℤ, ◌-ℤ◌, ◌==◌, nat_lt, int_lt, int_div, int_rem, unsigned_abs, bit_and, bit_or, bit_xor, count_ones, if◌then◌else◌}
use Rattle.std.specs.Int.{int_rem_euclid, int_div_euclid}

-- The operations as functions on whole numbers without bound. A word of width w is a number below 2 ^ w, which has at
-- position i, counted from 0 at the lowest, the bit `bit_at a i`. Clauses are those of IEEE 1800-2017.

-- ---- words and the numbers that they stand for

-- the signed number that a word of w bits stands for in two's complement (6.11.3)
abbrev pub signed_of : ℕ → ℕ → ℤ
signed_of w a = if nat_lt a (2 ^ (w - 1)) then pos a else pos a -ℤ pos (2 ^ w)

-- the word of w bits that stands for a whole number: what is left of it modulo 2 ^ w, at least 0
abbrev pub word_of : ℕ → ℤ → ℕ
word_of w z = unsigned_abs (int_rem_euclid z (pos (2 ^ w)))

-- how far from 0 the signed number is that a word of w bits stands for
abbrev pub magnitude_of : ℕ → ℕ → ℕ
magnitude_of w a = unsigned_abs (signed_of w a)

-- w copies of the sign bit of a word of w bits
abbrev pub sign_bits_of : ℕ → ℕ → ℕ
sign_bits_of w a = if nat_lt a (2 ^ (w - 1)) then 0 else 2 ^ w - 1

-- ---- extension, parts and joining

-- extension by 0, to any width: the same unsigned number (10.7, 11.8.2)
abbrev pub zext_of : ℕ → ℕ
zext_of a = a

-- extension of n bits to w bits by the sign bit: the same signed number (10.7, 11.8.2)
abbrev pub sext_of : ℕ → ℕ → ℕ → ℕ
sext_of n w a = word_of w (signed_of n a)

-- the w bits from position lo on (11.5.1)
abbrev pub slice_of : ℕ → ℕ → ℕ → ℕ
slice_of lo w a = a / 2 ^ lo % 2 ^ w

-- a above the n bits of b (11.4.12)
abbrev pub concat_of : ℕ → ℕ → ℕ → ℕ
concat_of n a b = a * 2 ^ n + b

-- a with the n bits of b in place of those from position lo on (11.5.1)
abbrev pub insert_of : ℕ → ℕ → ℕ → ℕ → ℕ
insert_of lo n a b = a / 2 ^ (lo + n) * 2 ^ (lo + n) + b * 2 ^ lo + a % 2 ^ lo

-- ---- bit by bit

-- each of the w bits the other way round (11.4.8)
abbrev pub not_of : ℕ → ℕ → ℕ
not_of w a = 2 ^ w - 1 - a

-- the bits that are 1 in both (11.4.8)
abbrev pub and_of : ℕ → ℕ → ℕ
and_of a b = bit_and a b

-- the bits that are 1 in one or both (11.4.8)
abbrev pub or_of : ℕ → ℕ → ℕ
or_of a b = bit_or a b

-- the bits that are 1 in just one (11.4.8)
abbrev pub xor_of : ℕ → ℕ → ℕ
xor_of a b = bit_xor a b

-- ---- arithmetic

-- the negated number modulo 2 ^ w (11.4.3)
abbrev pub neg_of : ℕ → ℕ → ℕ
neg_of w a = word_of w (neg_ℤ (pos a))

-- the sum modulo 2 ^ w (11.4.3)
abbrev pub add_of : ℕ → ℕ → ℕ → ℕ
add_of w a b = (a + b) % 2 ^ w

-- the difference modulo 2 ^ w (11.4.3)
abbrev pub sub_of : ℕ → ℕ → ℕ → ℕ
sub_of w a b = word_of w (pos a -ℤ pos b)

-- the product modulo 2 ^ w (11.4.3)
abbrev pub mul_of : ℕ → ℕ → ℕ → ℕ
mul_of w a b = (a * b) % 2 ^ w

-- the quotient of the unsigned numbers, its fraction cut off; 0 by zero (11.4.3)
abbrev pub div_u_of : ℕ → ℕ → ℕ
div_u_of a b = if b == 0 then 0 else a / b

-- the remainder of the unsigned numbers; 0 by zero (11.4.3)
abbrev pub mod_u_of : ℕ → ℕ → ℕ
mod_u_of a b = if b == 0 then 0 else a % b

-- the quotient of the signed numbers, cut off toward zero; 0 by zero (11.4.3)
abbrev pub div_s_of : ℕ → ℕ → ℕ → ℕ
div_s_of w a b = if b == 0 then 0 else word_of w (int_div (signed_of w a) (signed_of w b))

-- the remainder of the signed numbers, with the dividend's sign; 0 by zero (11.4.3)
abbrev pub mod_s_of : ℕ → ℕ → ℕ → ℕ
mod_s_of w a b = if b == 0 then 0 else word_of w (int_rem (signed_of w a) (signed_of w b))

-- ---- shifts by an unsigned number of places

-- to the left, filled with 0; by w places or more nothing is left (11.4.10)
abbrev pub shl_of : ℕ → ℕ → ℕ → ℕ
shl_of w a b = if nat_lt b w then (a * 2 ^ b) % 2 ^ w else 0

-- to the right, filled with 0; by w places or more nothing is left (11.4.10)
abbrev pub shr_u_of : ℕ → ℕ → ℕ → ℕ
shr_u_of w a b = if nat_lt b w then a / 2 ^ b else 0

-- to the right, filled with the sign bit, which divides the signed number by 2 ^ b and rounds down; by w places or more
-- only sign bits are left (11.4.10)
abbrev pub shr_s_of : ℕ → ℕ → ℕ → ℕ
shr_s_of w a b =
    if nat_lt b w then word_of w (int_div_euclid (signed_of w a) (pos (2 ^ b))) else sign_bits_of w a

-- ---- comparison and reduction, to one bit

-- whether the two are equal (11.4.5)
abbrev pub eq_of : ℕ → ℕ → ℕ
eq_of a b = if a == b then 1 else 0

-- whether the first is less, as unsigned numbers (11.4.4)
abbrev pub lt_u_of : ℕ → ℕ → ℕ
lt_u_of a b = if nat_lt a b then 1 else 0

-- whether the first is less, as signed numbers of n bits (11.4.4)
abbrev pub lt_s_of : ℕ → ℕ → ℕ → ℕ
lt_s_of n a b = if int_lt (signed_of n a) (signed_of n b) then 1 else 0

-- whether all n bits are 1 (11.4.9)
abbrev pub red_and_of : ℕ → ℕ → ℕ
red_and_of n a = if a == 2 ^ n - 1 then 1 else 0

-- whether some bit is 1 (11.4.9)
abbrev pub red_or_of : ℕ → ℕ
red_or_of a = if a == 0 then 0 else 1

-- whether the number of bits that are 1 is odd (11.4.9)
abbrev pub red_xor_of : ℕ → ℕ
red_xor_of a = count_ones a % 2

-- ---- choice

-- a where the condition's bit is 1, else b (11.4.11)
abbrev pub mux_of : ℕ → ℕ → ℕ → ℕ
mux_of c a b = if c == 1 then a else b
