use Rattle.std.specs.Prelude.{ℕ, ◌^◌, ◌<◌, List, [], ◌∷◌, map, ⊤}
use Rattle.bit_ops.specs.declared.operation.Op.{Op}
use Rattle.bit_ops.specs.declared.operation.Op.TheVariants.{Const, Zext, Sext, Slice, Concat, Not, Neg, And, Or, Xor, Add, Sub, Mul, DivU, DivS, ModU, ModS, Shl, ShrU, ShrS, Eq, LtU, LtS, RedAnd, RedOr, RedXor, Mux, Insert}
use Rattle.bit_ops.specs.Meaning.{zext_of, sext_of, slice_of, concat_of, insert_of, not_of, and_of, or_of, xor_of, neg_of, add_of, sub_of, mul_of, div_u_of, mod_u_of, div_s_of, mod_s_of, shl_of, shr_u_of, shr_s_of, eq_of, lt_u_of, lt_s_of, red_and_of, red_or_of, red_xor_of, mux_of}

-- the operands' widths, where an operand is a pair of its width and its word
abbrev pub widths_of : List (ℕ × ℕ) → List ℕ
widths_of operands = map (λ x. x.0) operands

-- each operand's word is below 2 to its width
abbrev pub AreWords : List (ℕ × ℕ) → Type 0
AreWords [] = ⊤
AreWords (x ∷ rest) = (x.1 < 2 ^ x.0) × AreWords rest

-- f of the width and the word of the one operand, and 0 for any other number of operands
abbrev pub of_one : (ℕ → ℕ → ℕ) → List (ℕ × ℕ) → ℕ
of_one f [] = 0
of_one f (x ∷ []) = f x.0 x.1
of_one f (x ∷ y ∷ rest) = 0

-- f of the widths and the words of the two operands, and 0 for any other number of operands
abbrev pub of_two : (ℕ → ℕ → ℕ → ℕ → ℕ) → List (ℕ × ℕ) → ℕ
of_two f [] = 0
of_two f (x ∷ rest) = of_one (f x.0 x.1) rest

-- f of the words of the three operands, and 0 for any other number of operands
abbrev pub of_three : (ℕ → ℕ → ℕ → ℕ) → List (ℕ × ℕ) → ℕ
of_three f [] = 0
of_three f (x ∷ rest) = of_two (λ n a m b. f x.1 a b) rest

-- an operation's value: the word of the result, where the result has width w, `lo` is the position that the row names and
-- `operands` are the widths and the words in their order; the operand of a constant is its value
abbrev pub value_of : Op → ℕ → ℕ → List (ℕ × ℕ) → ℕ
value_of Const w lo operands = of_one (λ n a. a) operands
value_of Zext w lo operands = of_one (λ n a. zext_of a) operands
value_of Sext w lo operands = of_one (λ n a. sext_of n w a) operands
value_of Slice w lo operands = of_one (λ n a. slice_of lo w a) operands
value_of Concat w lo operands = of_two (λ n a m b. concat_of m a b) operands
value_of Not w lo operands = of_one (λ n a. not_of w a) operands
value_of Neg w lo operands = of_one (λ n a. neg_of w a) operands
value_of And w lo operands = of_two (λ n a m b. and_of a b) operands
value_of Or w lo operands = of_two (λ n a m b. or_of a b) operands
value_of Xor w lo operands = of_two (λ n a m b. xor_of a b) operands
value_of Add w lo operands = of_two (λ n a m b. add_of w a b) operands
value_of Sub w lo operands = of_two (λ n a m b. sub_of w a b) operands
value_of Mul w lo operands = of_two (λ n a m b. mul_of w a b) operands
value_of DivU w lo operands = of_two (λ n a m b. div_u_of a b) operands
value_of DivS w lo operands = of_two (λ n a m b. div_s_of w a b) operands
value_of ModU w lo operands = of_two (λ n a m b. mod_u_of a b) operands
value_of ModS w lo operands = of_two (λ n a m b. mod_s_of w a b) operands
value_of Shl w lo operands = of_two (λ n a m b. shl_of w a b) operands
value_of ShrU w lo operands = of_two (λ n a m b. shr_u_of w a b) operands
value_of ShrS w lo operands = of_two (λ n a m b. shr_s_of w a b) operands
value_of Eq w lo operands = of_two (λ n a m b. eq_of a b) operands
value_of LtU w lo operands = of_two (λ n a m b. lt_u_of a b) operands
value_of LtS w lo operands = of_two (λ n a m b. lt_s_of n a b) operands
value_of RedAnd w lo operands = of_one (λ n a. red_and_of n a) operands
value_of RedOr w lo operands = of_one (λ n a. red_or_of a) operands
value_of RedXor w lo operands = of_one (λ n a. red_xor_of a) operands
value_of Mux w lo operands = of_three (λ c a b. mux_of c a b) operands
value_of Insert w lo operands = of_two (λ n a m b. insert_of lo m a b) operands
