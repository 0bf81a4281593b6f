-- Lists of values.
use Rattle.std.specs.Prelude.{ℕ, List, map}
use Rattle.bit_ops.specs.declared.value.Bits.{Bits}

-- the words of values
abbrev pub words : List Bits → List ℕ
words values = map (λ b. b.word) values

-- the widths of values
abbrev pub widths : List Bits → List ℕ
widths values = map (λ b. b.width) values
