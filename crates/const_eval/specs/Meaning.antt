-- What an expression means: its own size and sign, and its value in a context (IEEE 1800-2017, 11.6 to 11.8).
use Rattle.std.specs.Prelude.{ℕ, ◌-◌, ◌%◌, ◌^◌, Bool, true, false, not, ◌&&◌, ◌==◌, max, ℤ, pos, if◌then◌else◌, List, [], ◌∷◌, Option, None, Some}
use Rattle.bit_ops.specs.Meaning.{signed_of, sext_of, zext_of}

-- An expression has a size and a sign of its own, and a value in each size that is at least its own: the unsigned number of
-- its bits there, where the context is signed or not; it is signed only where all that meet in it are. Both are handed down to
-- its operands.
pub record Meaning : Type 0 where
  pub size : ℕ
  pub signed : Bool
  pub value : ℕ → Bool → ℕ

-- the value by itself, in its own size and sign
abbrev pub own : Meaning → ℕ
own m = m.value m.size m.signed

-- the whole number that an expression by itself stands for
abbrev pub number : Meaning → ℤ
number m = if m.signed then signed_of m.size (own m) else pos (own m)

-- whether a condition holds
abbrev pub holds : Meaning → Bool
holds m = not (own m == 0)

-- bits at a greater size: with the sign bit in each new place where the context is signed, else with 0 (11.8.2)
abbrev pub extended : Bool → ℕ → ℕ → ℕ → ℕ
extended signed from to a = if signed then sext_of from to a else zext_of a

-- what has a value by itself, which the context only extends
abbrev pub alone : ℕ → Bool → ℕ → Meaning
alone size signed a = record { size = size; signed = signed; value = λ n s. extended s size n a }

-- a fill, which is as many copies of its bit as the context has places (5.7.1)
abbrev pub fill : Bool → Meaning
fill one = record { size = 1; signed = false; value = λ n s. if one then 2 ^ n - 1 else 0 }

-- one bit that says whether a fact holds
abbrev pub flag : Bool → Meaning
flag holds = alone 1 false (if holds then 1 else 0)

-- an operation on one operand, at the context's size
abbrev pub each_bit : (ℕ → ℕ → ℕ) → Meaning → Meaning
each_bit f a = record { size = a.size; signed = a.signed; value = λ n s. f n (a.value n s) }

-- an operation that takes one operand by itself to one bit
abbrev pub reduced : (ℕ → ℕ → ℕ) → Meaning → Meaning
reduced f a = alone 1 false (f a.size (own a))

-- the size at which two operands meet
abbrev pub meeting : Meaning → Meaning → ℕ
meeting a b = max a.size b.size

-- they meet signed where both are
abbrev pub are_signed : Meaning → Meaning → Bool
are_signed a b = a.signed && b.signed

-- an operation on two operands, both in the context
abbrev pub combined : (ℕ → Bool → ℕ → ℕ → ℕ) → Meaning → Meaning → Meaning
combined f a b = record { size = meeting a b; signed = are_signed a b; value = λ n s. f n s (a.value n s) (b.value n s) }

-- a comparison: each operand is the other's context
abbrev pub compared : (ℕ → Bool → ℕ → ℕ → ℕ) → Meaning → Meaning → Meaning
compared f a b = alone 1 false (f n s (a.value n s) (b.value n s))
  where
    n : ℕ
    n = meeting a b

    s : Bool
    s = are_signed a b

-- an operation on the first operand in the context, by the second by itself, taken as unsigned
abbrev pub moved : (ℕ → Bool → ℕ → ℕ → ℕ) → Meaning → Meaning → Meaning
moved f a b = record { size = a.size; signed = a.signed; value = λ n s. f n s (a.value n s) (own b) }

-- a choice: the condition by itself, the two in the context (11.4.11)
abbrev pub chosen : Meaning → Meaning → Meaning → Meaning
chosen c a b = record { size = meeting a b; signed = are_signed a b; value = λ n s. if holds c then a.value n s else b.value n s }

-- ---- where an expression is assigned or compared

-- the size of an assigned value: the target's where it is told, else the expression's own (10.7)
abbrev pub assigned_size : Option ℕ → Meaning → ℕ
assigned_size None m = m.size
assigned_size (Some target) m = target

-- The assigned value (10.7, 11.8.2): in an unsigned context where that is asked for, else in one of the expression's own sign; at
-- the greater of the target's size and its own, cut to the target, or at its own size where no target's is told.
abbrev pub assigned : Option ℕ → Bool → Meaning → ℕ
assigned None unsigned m = m.value m.size (not unsigned && m.signed)
assigned (Some target) unsigned m = m.value (max target m.size) (not unsigned && m.signed) % 2 ^ target

-- the size at which a `case` compares its expressions: the greatest of theirs (12.5)
abbrev pub case_size : List Meaning → ℕ
case_size [] = 0
case_size (m ∷ ms) = max m.size (case_size ms)

-- it compares them signed only where all are (12.5)
abbrev pub case_signed : List Meaning → Bool
case_signed [] = true
case_signed (m ∷ ms) = m.signed && case_signed ms
