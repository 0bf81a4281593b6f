-- The text of a trace: its header, the line of a step, and the whole.
use Rattle.std.specs.Prelude.{ℕ, zero, suc, ◌+◌, ◌/◌, ◌%◌, List, [], ◌∷◌, ◌++◌, codes, nat_lt, if◌then◌else◌}
use Rattle.std.specs.List.{flat_map, zip}
use Rattle.std.specs.Fmt.{decimal}
use Rattle.sv_base.specs.declared.face.Port.{Port}

-- a hexadecimal digit in lower case
abbrev pub hex_digit : ℕ → ℕ
hex_digit n = if nat_lt n 10 then 48 + n else 87 + n

-- the last n hexadecimal digits of a word, the highest first
abbrev pub hex_digits : ℕ → ℕ → List ℕ
hex_digits zero word = []
hex_digits (suc n) word = hex_digits n (word / 16) ++ hex_digit (word % 16) ∷ []

-- how many hexadecimal digits a width takes: a quarter of it, rounded up
abbrev pub digits_of_width : ℕ → ℕ
digits_of_width width = (width + 3) / 4

-- what the header says of a port: a blank, its name, a colon and its width
abbrev pub heading : Port → List ℕ
heading p = 32 ∷ p.name ++ 58 ∷ decimal p.width

-- what a line says of a port: a blank, and its value with all its digits
abbrev pub cell : Port × ℕ → List ℕ
cell x = 32 ∷ hex_digits (digits_of_width x.0.width) x.1

-- the first line: the word `step` and the ports
abbrev pub header : List Port → List ℕ
header ports = codes "step" ++ flat_map heading ports ++ 10 ∷ []

-- the line of a step: its number, and the words of the ports
abbrev pub line : ℕ → List Port → List ℕ → List ℕ
line number ports words = decimal number ++ flat_map cell (zip ports words) ++ 10 ∷ []

-- the lines of rows, each a word for each port, the first of which has this number
abbrev pub lines_of_rows : ℕ → List Port → List (List ℕ) → List ℕ
lines_of_rows number ports [] = []
lines_of_rows number ports (row ∷ rows) = line number ports row ++ lines_of_rows (number + 1) ports rows

-- the text of a trace that has these rows: the header, and a line for each of them, counted from 0
abbrev pub trace_text : List Port → List (List ℕ) → List ℕ
trace_text ports rows = header ports ++ lines_of_rows 0 ports rows
