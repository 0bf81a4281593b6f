-- What a wrapper keeps, and what it shows.
use Rattle.std.specs.Prelude.{ℕ, List, nat_lt, if◌then◌else◌}
use Rattle.bit_ops.specs.declared.value.Bits.{Bits}

-- the outputs last taken after an update and after a step of clocks, each with its number
pub record Taken : Type 0 where
  pub combo_no : ℕ
  pub out_combo : List Bits
  pub seq_no : ℕ
  pub out_seq : List Bits

-- the outputs that are shown: those with the greater number, and with equal numbers those after an update
abbrev pub shown : Taken → List Bits
shown w = if nat_lt w.combo_no w.seq_no then w.out_seq else w.out_combo
