-- The value of an expression (IEEE 1800-2017, 11.4, 11.6 and 11.8), once every size and sign is decided.
use Rattle.std.specs.Prelude.{ℕ, ◌<◌, ◌*◌, ◌/◌, ◌%◌, ◌^◌, Bool, ℤ, pos, ◌+ℤ◌, ◌-ℤ◌, int_lt, unsigned_abs, List, [], ◌∷◌, ◌++◌, length, map, slice_index, if◌then◌else◌}
use Rattle.std.specs.List.{flat_map}
use Rattle.bit_ops.specs.Meaning.{signed_of}
use Rattle.bit_ops.specs.Rows.{value_of}
use Rattle.bit_ops.specs.declared.value.Bits.{Bits}
use Rattle.net_ir.specs.declared.term.Term.{Term}
use Rattle.net_ir.specs.declared.term.Term.TheOpen.{Term-F, Const, Read, Pick, Apply}
use Rattle.net_ir.specs.declared.term.Term.TheFolds.{fold-Term}
use Rattle.net_ir.specs.declared.design.Var.{Var}

-- A valuation is a list with a word for each variable, by its number.

-- the widths and the words of values, as an operation takes them
abbrev pub operands : List Bits → List (ℕ × ℕ)
operands values = map (λ b. (b.width, b.word)) values

-- the widths of variables
abbrev pub widths_of : List Var → List ℕ
widths_of vars = map (λ v. v.width) vars

-- the whole number that a word of n bits stands for, signed or not
abbrev pub whole_number : Bool → ℕ → ℕ → ℤ
whole_number signed n a = if signed then signed_of n a else pos a

-- the w bits of a word from a place on, which may lie below its lowest; a bit that it doesn't have is 0 (11.5.1)
abbrev pub bits_from : ℤ → ℕ → ℕ → ℕ
bits_from place w a =
    if int_lt place (pos 0) then a * 2 ^ unsigned_abs place % 2 ^ w else a / 2 ^ unsigned_abs place % 2 ^ w

-- the lowest of w positions from one up, or from one down
abbrev pub lowest_from : Bool → ℕ → ℤ → ℤ
lowest_from down w p = if down then p -ℤ pos w +ℤ pos 1 else p

-- the w bits at a position of a word whose lowest position is `low`
abbrev pub picked : ℕ → ℕ → Bool → ℤ → ℕ → ℕ
picked word low down p w = bits_from (lowest_from down w p -ℤ pos low) w word

-- the width and the word of a term, from those of its operands: a read is the variable's width and word, and an
-- operation is its row of the table of operations
abbrev pub operand_of_layer : List ℕ → List ℕ → Term-F (ℕ × ℕ) → ℕ × ℕ
operand_of_layer ws u (Const bits) = (bits.width, bits.word)
operand_of_layer ws u (Read var place) = (slice_index ws var, slice_index u var)
operand_of_layer ws u (Pick base low at at_signed down width) = (width, picked base.1 low down (whole_number at_signed at.0 at.1) width)
operand_of_layer ws u (Apply op width lo args) = (width, value_of op width lo args)

-- each variable's word is one of its width
abbrev pub AreWordsOf : List ℕ → List ℕ → Type 0
AreWordsOf ws u = (x : ℕ) → x < length ws → slice_index u x < 2 ^ slice_index ws x

-- the width and the word of a term, where ws are the widths of the variables and u is a valuation
abbrev pub operand_of : List ℕ → List ℕ → Term → ℕ × ℕ
operand_of ws u = fold-Term (ℕ × ℕ) (operand_of_layer ws u)

-- the value of a term on a valuation
abbrev pub val : List ℕ → List ℕ → Term → ℕ
val ws u term = (operand_of ws u term).1

-- the size of a term in bits
abbrev pub size : List ℕ → Term → ℕ
size ws term = (operand_of ws [] term).0

-- the variables that a term reads, from those that its operands read
abbrev pub reads_of_layer : Term-F (List ℕ) → List ℕ
reads_of_layer (Const bits) = []
reads_of_layer (Read var place) = var ∷ []
reads_of_layer (Pick base low at at_signed down width) = base ++ at
reads_of_layer (Apply op width lo args) = flat_map (λ reads. reads) args

-- the variables that a term reads
abbrev pub reads_of : Term → List ℕ
reads_of = fold-Term (List ℕ) reads_of_layer
