-- What operations make of operands in a context.
use Rattle.std.specs.Prelude.{ℕ, Bool}
use Rattle.bit_ops.specs.Meaning.{neg_of, not_of, and_of, or_of, xor_of, add_of, sub_of, mul_of, shl_of, shr_u_of}
use Rattle.const_eval.specs.declared.pending.Change.{Change}
use Rattle.const_eval.specs.declared.pending.Change.TheVariants.{Negate, Invert}
use Rattle.const_eval.specs.declared.pending.Operation.{Operation}
use Rattle.const_eval.specs.declared.pending.Operation.TheVariants.{Add, Subtract, Multiply, Divide, Remainder, And, Or, Xor, Xnor}
use Rattle.const_eval.specs.declared.pending.Movement.{Movement}
use Rattle.const_eval.specs.declared.pending.Movement.TheVariants.{Left, Right, ArithmeticRight, Power}
use Rattle.const_eval.specs.Operators.{quotient, remainder, arithmetic_right, raised_to}

-- what a change makes of one operand of so many bits
abbrev pub changed_by : Change → ℕ → ℕ → ℕ
changed_by Negate = neg_of
changed_by Invert = not_of

-- what an operation makes of two operands of so many bits, signed or not
abbrev pub combined_by : Operation → ℕ → Bool → ℕ → ℕ → ℕ
combined_by Add n s = add_of n
combined_by Subtract n s = sub_of n
combined_by Multiply n s = mul_of n
combined_by Divide n s = quotient n s
combined_by Remainder n s = remainder n s
combined_by And n s = and_of
combined_by Or n s = or_of
combined_by Xor n s = xor_of
combined_by Xnor n s = λ a b. not_of n (xor_of a b)

-- what a movement makes of an operand of so many bits, signed or not, and a number
abbrev pub moved_by : Movement → ℕ → Bool → ℕ → ℕ → ℕ
moved_by Left n s = shl_of n
moved_by Right n s = shr_u_of n
moved_by ArithmeticRight n s = arithmetic_right n s
moved_by Power n s = raised_to n
