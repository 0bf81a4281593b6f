-- What is selected of a name, and what is joined (IEEE 1800-2017, 11.4.12, 11.5.1).
use Rattle.std.specs.Prelude.{ℕ, zero, suc, ◌+◌, ◌*◌, ◌/◌, ◌%◌, ◌^◌, Bool, ℤ, pos, ◌-ℤ◌, int_lt, unsigned_abs, if◌then◌else◌, List, [], ◌∷◌, false}
use Rattle.bit_ops.specs.Meaning.{concat_of}
use Rattle.const_eval.specs.Meaning.{Meaning, own, alone}

-- What a name means where it is read: whether it is a constant and whether bits can be selected from it, its size and sign,
-- the lowest position of its range, and its bits as an unsigned number.
pub record Named : Type 0 where
  pub constant : Bool
  pub ranged : Bool
  pub size : ℕ
  pub signed : Bool
  pub low : ℕ
  pub word : ℕ

-- the w bits of a word from a place on, which may lie below its lowest; a bit that it doesn't have is 0
abbrev pub bits_from : ℤ → ℕ → ℕ → ℕ
bits_from place w a =
    if int_lt place (pos 0) then a * 2 ^ unsigned_abs place % 2 ^ w else a / 2 ^ unsigned_abs place % 2 ^ w

-- the w bits of a name from a position of its range on
abbrev pub part : Named → ℤ → ℕ → Meaning
part named position w = alone w false (bits_from (position -ℤ pos named.low) w named.word)

-- how many bits parts have together
abbrev pub total : List Meaning → ℕ
total [] = 0
total (m ∷ ms) = m.size + total ms

-- the bits of parts, each by itself, the first one highest
abbrev pub joined : List Meaning → ℕ
joined [] = 0
joined (m ∷ ms) = concat_of (total ms) (own m) (joined ms)

-- so many copies of the w bits of a word
abbrev pub copies : ℕ → ℕ → ℕ → ℕ
copies zero w a = 0
copies (suc count) w a = concat_of w (copies count w a) a
