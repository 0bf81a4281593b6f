-- Whole numbers as the code has them, and the one that a constant stands for.
use Rattle.std.specs.Prelude.{ℕ, ℤ, pos, negsuc, if◌then◌else◌}
use Rattle.bit_ops.specs.Meaning.{signed_of}
use Rattle.const_eval.specs.declared.env.Const.{Const}
use Rattle.const_eval.specs.declared.whole_number.WholeNumber.{WholeNumber}
use Rattle.const_eval.specs.declared.whole_number.WholeNumber.TheVariants.{NotNegative, Negative}

-- which whole number it is
abbrev pub integer_of : WholeNumber → ℤ
integer_of (NotNegative n) = pos n
integer_of (Negative n) = negsuc n

-- a whole number as a count, of nothing where it is below 0
abbrev pub count_of : ℤ → ℕ
count_of (pos n) = n
count_of (negsuc n) = 0

-- the whole number that a constant stands for, by its sign (6.11.3)
abbrev pub whole_number_of : Const → ℤ
whole_number_of c = if c.signed then signed_of c.value.width c.value.word else pos c.value.word
