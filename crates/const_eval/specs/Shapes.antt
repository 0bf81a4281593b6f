-- What the shapes of operators mean.
use Rattle.std.specs.Prelude.{ℕ, Bool, true, false, not, ◌&&◌, ◌||◌}
use Rattle.bit_ops.specs.Meaning.{eq_of, red_and_of, red_or_of, red_xor_of}
use Rattle.const_eval.specs.declared.shape.Reduction.{Reduction}
use Rattle.const_eval.specs.declared.shape.Reduction.TheVariants as reduction
use Rattle.const_eval.specs.declared.shape.Comparison.{Comparison}
use Rattle.const_eval.specs.declared.shape.Comparison.TheVariants.{Equal, Less, Greater}
use Rattle.const_eval.specs.declared.shape.UnaryShape.{UnaryShape}
use Rattle.const_eval.specs.declared.shape.UnaryShape.TheVariants as unary
use Rattle.const_eval.specs.declared.shape.BinaryShape.{BinaryShape}
use Rattle.const_eval.specs.declared.shape.BinaryShape.TheVariants as binary
use Rattle.const_eval.specs.Meaning.{Meaning, holds, flag, each_bit, reduced, combined, compared, moved}
use Rattle.const_eval.specs.Operators.{opposite, less}
use Rattle.const_eval.specs.Operations.{changed_by, combined_by, moved_by}

-- what a reduction makes of the bits of an operand
abbrev pub reduced_by : Reduction → ℕ → ℕ → ℕ
reduced_by reduction.And w a = red_and_of w a
reduced_by reduction.Or w a = red_or_of a
reduced_by reduction.Xor w a = red_xor_of a

-- the bit of a comparison of two operands of so many bits, signed or not
abbrev pub compared_by : Comparison → ℕ → Bool → ℕ → ℕ → ℕ
compared_by Equal n s a b = eq_of a b
compared_by Less n s a b = less n s a b
compared_by Greater n s a b = less n s b a

-- a bit, turned or not
abbrev pub turned : Bool → ℕ → ℕ
turned true bit = opposite bit
turned false bit = bit

-- what an operator of a shape makes of the meaning of its operand
abbrev pub unary_meaning : UnaryShape → Meaning → Meaning
unary_meaning unary.Same = λ a. a
unary_meaning (unary.Change change) = each_bit (changed_by change)
unary_meaning unary.LogicalNot = λ a. flag (not (holds a))
unary_meaning (unary.Reduction reduction turn) = reduced (λ w a. turned turn (reduced_by reduction w a))

-- what an operator of a shape makes of the meanings of its operands
abbrev pub binary_meaning : BinaryShape → Meaning → Meaning → Meaning
binary_meaning (binary.Operation operation) = combined (combined_by operation)
binary_meaning (binary.Comparison comparison turn) = compared (λ n s a b. turned turn (compared_by comparison n s a b))
binary_meaning binary.LogicalAnd = λ a b. flag (holds a && holds b)
binary_meaning binary.LogicalOr = λ a b. flag (holds a || holds b)
binary_meaning (binary.Movement movement) = moved (moved_by movement)
