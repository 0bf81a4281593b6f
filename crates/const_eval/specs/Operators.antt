-- What the operators and functions mean, each its row of the table of sizes (IEEE 1800-2017, 11.4).
use Rattle.std.specs.Prelude.{ℕ, zero, suc, ◌+◌, ◌-◌, ◌%◌, ◌^◌, Bool, true, false, not, ◌&&◌, ◌||◌, nat_le, if◌then◌else◌}
use Rattle.bit_ops.specs.Meaning.{neg_of, not_of, and_of, or_of, xor_of, add_of, sub_of, mul_of, div_u_of, div_s_of, mod_u_of, mod_s_of, shl_of, shr_u_of, shr_s_of, eq_of, lt_u_of, lt_s_of, red_and_of, red_or_of, red_xor_of}
use Rattle.bit_ops.specs.declared.value.TheConstants.{MAX_WIDTH}
use Rattle.sv_base.specs.declared.operator.Unary.{Unary}
use Rattle.sv_base.specs.declared.operator.Unary.TheVariants as unary
use Rattle.sv_base.specs.declared.operator.Binary.{Binary}
use Rattle.sv_base.specs.declared.operator.Binary.TheVariants as binary
use Rattle.sv_base.specs.declared.operator.Function.{Function}
use Rattle.sv_base.specs.declared.operator.Function.TheVariants as function
use Rattle.const_eval.specs.Meaning.{Meaning, own, holds, alone, flag, each_bit, reduced, combined, compared, moved}

-- the other bit
abbrev pub opposite : ℕ → ℕ
opposite bit = 1 - bit

abbrev pub quotient : ℕ → Bool → ℕ → ℕ → ℕ
quotient n s a b = if s then div_s_of n a b else div_u_of a b

abbrev pub remainder : ℕ → Bool → ℕ → ℕ → ℕ
remainder n s a b = if s then mod_s_of n a b else mod_u_of a b

abbrev pub less : ℕ → Bool → ℕ → ℕ → ℕ
less n s a b = if s then lt_s_of n a b else lt_u_of a b

-- a shift to the right with copies of the sign bit where the context is signed
abbrev pub arithmetic_right : ℕ → Bool → ℕ → ℕ → ℕ
arithmetic_right n s a b = if s then shr_s_of n a b else shr_u_of n a b

-- a power modulo 2 to the size
abbrev pub raised_to : ℕ → ℕ → ℕ → ℕ
raised_to n a b = a ^ b % 2 ^ n

-- the least of so many numbers from k on that passes a test, else the one behind them
unfoldable pub least_from : (ℕ → Bool) → ℕ → ℕ → ℕ
least_from test k zero = k
least_from test k (suc n) = if test k then k else least_from test (k + 1) n

-- the logarithm to the base 2, rounded up, of a number of at most the greatest width: the least k with a ≤ 2 ^ k (20.8.1)
abbrev pub logarithm : ℕ → ℕ
logarithm a = least_from (λ k. nat_le a (2 ^ k)) 0 MAX_WIDTH

-- the operators before an operand (11.4.3, 11.4.7 to 11.4.9)
abbrev pub unary_by : Unary → Meaning → Meaning
unary_by unary.Plus = λ a. a
unary_by unary.Minus = each_bit neg_of
unary_by unary.LogicalNot = λ a. flag (not (holds a))
unary_by unary.Not = each_bit not_of
unary_by unary.ReduceAnd = reduced red_and_of
unary_by unary.ReduceNand = reduced (λ w a. opposite (red_and_of w a))
unary_by unary.ReduceOr = reduced (λ w a. red_or_of a)
unary_by unary.ReduceNor = reduced (λ w a. opposite (red_or_of a))
unary_by unary.ReduceXor = reduced (λ w a. red_xor_of a)
unary_by unary.ReduceXnor = reduced (λ w a. opposite (red_xor_of a))

-- the operators between two operands, the exponent of a power by itself (11.4.3 to 11.4.8, 11.4.10)
abbrev pub binary_by : Binary → Meaning → Meaning → Meaning
binary_by binary.Power = moved (λ n s. raised_to n)
binary_by binary.Multiply = combined (λ n s. mul_of n)
binary_by binary.Divide = combined quotient
binary_by binary.Remainder = combined remainder
binary_by binary.Add = combined (λ n s. add_of n)
binary_by binary.Subtract = combined (λ n s. sub_of n)
binary_by binary.ShiftLeft = moved (λ n s. shl_of n)
binary_by binary.ShiftRight = moved (λ n s. shr_u_of n)
binary_by binary.ArithmeticShiftRight = moved arithmetic_right
binary_by binary.Less = compared less
binary_by binary.AtMost = compared (λ n s a b. opposite (less n s b a))
binary_by binary.Greater = compared (λ n s a b. less n s b a)
binary_by binary.AtLeast = compared (λ n s a b. opposite (less n s a b))
binary_by binary.Equal = compared (λ n s. eq_of)
binary_by binary.Unequal = compared (λ n s a b. opposite (eq_of a b))
binary_by binary.And = combined (λ n s. and_of)
binary_by binary.Xor = combined (λ n s. xor_of)
binary_by binary.Xnor = combined (λ n s a b. not_of n (xor_of a b))
binary_by binary.Or = combined (λ n s. or_of)
binary_by binary.LogicalAnd = λ a b. flag (holds a && holds b)
binary_by binary.LogicalOr = λ a b. flag (holds a || holds b)

-- the system functions (11.7, 20.8.1)
abbrev pub function_by : Function → Meaning → Meaning
function_by function.Signed = λ a. alone a.size true (own a)
function_by function.Unsigned = λ a. alone a.size false (own a)
function_by function.Logarithm = λ a. alone 32 true (logarithm (own a))
