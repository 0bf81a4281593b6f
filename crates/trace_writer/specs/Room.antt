-- The values of a line, and the room that it takes.
use Rattle.std.specs.Prelude.{ℕ, ◌+◌, List, ◌∷◌, sum_by}
use Rattle.std.specs.List.{flat_map}
use Rattle.bit_ops.specs.declared.value.Bits.{Bits}
use Rattle.sv_base.specs.TraceText.{hex_digits, digits_of_width}

-- what a line says of a value: a blank, and its word with all the digits of its width
abbrev pub value_text : Bits → List ℕ
value_text value = 32 ∷ hex_digits (digits_of_width value.width) value.word

-- what a line says of its values
abbrev pub values_text : List Bits → List ℕ
values_text values = flat_map value_text values

-- how many bytes a value of this width takes
abbrev pub value_room : ℕ → ℕ
value_room width = 1 + digits_of_width width

-- how many bytes values of these widths take
abbrev pub values_room : List ℕ → ℕ
values_room widths = sum_by value_room widths

-- the most bytes of a line with values of these widths: a number of a u64 has at most 20 digits, and an LF ends the line
abbrev pub line_room : List ℕ → ℕ
line_room widths = values_room widths + 21
