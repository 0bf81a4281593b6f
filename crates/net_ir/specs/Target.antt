-- What an assignment to a target writes, bit by bit (IEEE 1800-2017, 10.3, 10.4, 10.7, 11.4.12 and 11.5.1).
use Rattle.std.specs.Prelude.{ℕ, zero, suc, ◌+◌, ◌/◌, ◌^◌, ◌==◌, Bool, true, false, not, ◌&&◌, nat_lt, ℤ, pos, ◌+ℤ◌, ◌-ℤ◌, int_lt, unsigned_abs, List, [], ◌∷◌, ◌++◌, Option, None, Some, slice_get, slice_index, slice_set, if◌then◌else◌}
use Rattle.std.specs.List.{list_any, flat_map}
use Rattle.std.specs.Int.{bit_at}
use Rattle.bit_ops.specs.Meaning.{insert_of}
use Rattle.net_ir.specs.declared.design.Var.{Var}
use Rattle.net_ir.specs.declared.statement.Pos.{Pos}
use Rattle.net_ir.specs.declared.statement.Target.{Target}
use Rattle.net_ir.specs.declared.statement.Target.TheOpen.{Target-F, Of, List as Parts}
use Rattle.net_ir.specs.declared.statement.Target.TheFolds.{fold-Target}
use Rattle.net_ir.specs.Value.{whole_number, lowest_from, widths_of, size, val, reads_of}

-- a write of a bit: the variable's number, the bit's place in its word, and the bit
pub record Write : Type 0 where
  pub var : ℕ
  pub place : ℕ
  pub bit : ℕ

-- the place in a word of w bits, where it is one
abbrev pub place_in : ℕ → ℤ → Option ℕ
place_in w z = if int_lt z (pos 0) then None else (if nat_lt (unsigned_abs z) w then Some (unsigned_abs z) else None)

abbrev pub write_at : ℕ → Option ℕ → ℕ → List Write
write_at x None bit = []
write_at x (Some place) bit = record { var = x; place = place; bit = bit } ∷ []

-- the writes of the lowest n bits of a word to variable x of w bits, from a place up: a place out of range is passed over
abbrev pub bits_to : ℕ → ℕ → ℤ → ℕ → ℕ → List Write
bits_to x w z zero word = []
bits_to x w z (suc n) word = bits_to x w z n word ++ write_at x (place_in w (z +ℤ pos n)) (bit_at word n)

-- the lowest position that so many bits from one up, or from one down, take
abbrev pub position_of : List ℕ → List ℕ → Pos → ℤ
position_of ws u p = lowest_from p.down p.width (whole_number p.at_signed (size ws p.at) (val ws u p.at))

-- what takes an assigned word: how many bits, and the writes of a word, which is cut to them
pub record Lvalue : Type 0 where
  pub width : ℕ
  pub writes : ℕ → List Write

-- the whole of variable x, or bits of it
abbrev pub bits_of : List ℕ → List ℕ → ℕ → Var → Option Pos → Lvalue
bits_of ws u x v None = record { width = v.width; writes = bits_to x v.width (pos 0) v.width }
bits_of ws u x v (Some p) = record { width = p.width; writes = bits_to x v.width (position_of ws u p -ℤ pos v.low) p.width }

-- a name that means no variable takes nothing
abbrev pub no_bits : Lvalue
no_bits = record { width = 0; writes = λ word. [] }

abbrev pub bits_where : List ℕ → List ℕ → ℕ → Option Var → Option Pos → Lvalue
bits_where ws u x None p = no_bits
bits_where ws u x (Some v) p = bits_of ws u x v p

abbrev pub named_bits : List Var → List ℕ → Option ℕ → Option Pos → Lvalue
named_bits vars u None p = no_bits
named_bits vars u (Some x) p = bits_where (widths_of vars) u x (slice_get vars x) p

-- the first part takes the highest bits; parts are written from left to right
abbrev pub concatenated : List Lvalue → Lvalue
concatenated [] = no_bits
concatenated (first ∷ rest) = record {
  width = first.width + (concatenated rest).width;
  writes = λ word. first.writes (word / 2 ^ (concatenated rest).width) ++ (concatenated rest).writes word;
}

abbrev pub lvalue_layer : List Var → List ℕ → Target-F Lvalue → Lvalue
lvalue_layer vars u (Of var name place p) = named_bits vars u var p
lvalue_layer vars u (Parts parts) = concatenated parts

-- what a target takes, with its positions on the valuation u
abbrev pub lvalue : List Var → List ℕ → Target → Lvalue
lvalue vars u = fold-Target Lvalue (lvalue_layer vars u)

-- how many bits a target has
abbrev pub target_width : List Var → Target → ℕ
target_width vars target = (lvalue vars [] target).width

-- the writes of an assignment of a word to a target, in their order
abbrev pub writes_to : List Var → List ℕ → Target → ℕ → List Write
writes_to vars u target word = (lvalue vars u target).writes word

-- ---- what writes give

-- the bit that a write gives to bit k of variable x, where it writes that bit
abbrev pub written_bit : Write → ℕ → ℕ → Option ℕ
written_bit w x k = if w.var == x && w.place == k then Some w.bit else None

-- what the later says, and where it says nothing what the earlier does
abbrev pub later_or : Option ℕ → Option ℕ → Option ℕ
later_or None earlier = earlier
later_or (Some bit) earlier = Some bit

-- the bit that the last of the writes to bit k of variable x gives
abbrev pub last_bit : List Write → ℕ → ℕ → Option ℕ
last_bit [] x k = None
last_bit (w ∷ writes) x k = later_or (last_bit writes x k) (written_bit w x k)

-- a word with another bit k
abbrev pub word_with : ℕ → ℕ → ℕ → ℕ
word_with word k bit = insert_of k 1 word bit

-- a valuation after writes: each bit is as its last write gives it
abbrev pub overlaid : List ℕ → List Write → List ℕ
overlaid u [] = u
overlaid u (w ∷ writes) = overlaid (slice_set u w.var (word_with (slice_index u w.var) w.place w.bit)) writes

-- ---- which bits a target may write, whatever its positions are

-- whether a list is empty
abbrev pub is_empty : {X : Type 0} → List X → Bool
is_empty [] = true
is_empty (x ∷ xs) = false

-- whether the position of a target is a constant: no variable is read for it
abbrev pub is_fixed : Pos → Bool
is_fixed p = is_empty (reads_of p.at)

-- whether the n bits from a place up cover bit k
abbrev pub covers : ℤ → ℕ → ℕ → Bool
covers z n k = not (int_lt (pos k) z) && int_lt (pos k) (z +ℤ pos n)

-- whether bits of a variable take its bit k: at a position that is not constant they may be any
abbrev pub takes_bit : List ℕ → Var → Option Pos → ℕ → Bool
takes_bit ws v None k = true
takes_bit ws v (Some p) k = if is_fixed p then covers (position_of ws [] p -ℤ pos v.low) p.width k else true

abbrev pub bit_where : List ℕ → Option Var → Option Pos → ℕ → Bool
bit_where ws None p k = false
bit_where ws (Some v) p k = nat_lt k v.width && takes_bit ws v p k

abbrev pub named_bit : List Var → Option ℕ → Option Pos → ℕ → ℕ → Bool
named_bit vars None p x k = false
named_bit vars (Some var) p x k = var == x && bit_where (widths_of vars) (slice_get vars var) p k

abbrev pub may_write_layer : List Var → Target-F (ℕ → ℕ → Bool) → ℕ → ℕ → Bool
may_write_layer vars (Of var name place p) x k = named_bit vars var p x k
may_write_layer vars (Parts parts) x k = list_any (λ part. part x k) parts

-- whether an assignment to this target may write bit k of variable x
abbrev pub may_write : List Var → Target → ℕ → ℕ → Bool
may_write vars = fold-Target (ℕ → ℕ → Bool) (may_write_layer vars)

-- ---- what a target names and reads

abbrev pub var_list : Option ℕ → List ℕ
var_list None = []
var_list (Some var) = var ∷ []

abbrev pub position_reads : Option Pos → List ℕ
position_reads None = []
position_reads (Some p) = reads_of p.at

abbrev pub target_vars_layer : Target-F (List ℕ) → List ℕ
target_vars_layer (Of var name place p) = var_list var
target_vars_layer (Parts parts) = flat_map (λ part. part) parts

-- the variables that a target names
abbrev pub target_vars : Target → List ℕ
target_vars = fold-Target (List ℕ) target_vars_layer

abbrev pub target_reads_layer : Target-F (List ℕ) → List ℕ
target_reads_layer (Of var name place p) = position_reads p
target_reads_layer (Parts parts) = flat_map (λ part. part) parts

-- the variables that the positions in a target read
abbrev pub target_reads : Target → List ℕ
target_reads = fold-Target (List ℕ) target_reads_layer
