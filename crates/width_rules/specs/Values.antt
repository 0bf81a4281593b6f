-- The values of constants.
use Rattle.std.specs.Prelude.{◌≡◌, ℕ, ◌%◌, ◌^◌, Bool, true, false, nat_le, Result, Ok, refl}
use Rattle.std.proofs.Common.{lit≤, lit<, mod-lt}
use Rattle.std.proofs.lemmas.Bool.{and_parts, leb-true}
use Rattle.std.proofs.lemmas.Nat.{pow_pos}
use Rattle.bit_ops.specs.declared.value.TheConstants.{MAX_WIDTH}
use Rattle.bit_ops.specs.declared.value.Bits.{Bits}
use Rattle.sv_base.specs.declared.refusal.Refusal.{Refusal}
use Rattle.const_eval.specs.declared.env.Const.{Const}
use Rattle.const_eval.specs.Literal.{is_width}
use Rattle.const_eval.specs.Meaning.{Meaning, own}
use Rattle.const_eval.specs.Expressions.{Judged, ◌>>=◌}

-- the value 0 of one bit
abbrev pub zero_bit : Bits
zero_bit = record { width = 1; word = 0; positive = lit≤ tt; within = lit≤ tt; fits = lit< tt }

-- the lowest bits of a word as a value of so many bits, by whether a value may have so many
abbrev pub bits_where : (w a : ℕ) (wide : Bool) → is_width w ≡ wide → Bits
bits_where w a true is = record {
  width = w;
  word = a % 2 ^ w;
  positive = leb-true 1 w (and_parts (nat_le 1 w) (nat_le w MAX_WIDTH) is).0;
  within = leb-true w MAX_WIDTH (and_parts (nat_le 1 w) (nat_le w MAX_WIDTH) is).1;
  fits = mod-lt a (pow_pos w);
}
bits_where w a false is = zero_bit

-- the lowest bits of a word as a value of so many bits, where a value may have so many
abbrev pub bits_of : ℕ → ℕ → Bits
bits_of w a = bits_where w a (is_width w) refl

-- the constant of an expression that means this
abbrev pub const_of : Meaning → Const
const_of m = record { value = bits_of m.size (own m); signed = m.signed }

-- the constant of what was judged
abbrev pub constant_of : Judged → Result Const Refusal
constant_of judged = judged >>= λ m. Ok (const_of m)
