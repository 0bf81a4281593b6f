-- What operators and functions make of what was measured (IEEE 1800-2017, 11.4, 11.7).
use Rattle.std.specs.Prelude.{ℕ, Bool, true, false, ◌&&◌, max, Option, None, Some, Result, Ok}
use Rattle.bit_ops.specs.declared.operation.Op.{Op}
use Rattle.bit_ops.specs.declared.operation.Op.TheVariants as op
use Rattle.sv_base.specs.declared.kind.Kind.TheVariants.{NotConstant, Unexpected}
use Rattle.sv_base.specs.declared.refusal.Refusal.{Refusal}
use Rattle.sv_base.specs.declared.operator.Unary.{Unary}
use Rattle.sv_base.specs.declared.operator.Unary.TheVariants as unary
use Rattle.sv_base.specs.declared.operator.Binary.{Binary}
use Rattle.sv_base.specs.declared.operator.Binary.TheVariants as binary
use Rattle.sv_base.specs.declared.operator.Function.{Function}
use Rattle.sv_base.specs.declared.operator.Function.TheVariants as function
use Rattle.sv_base.specs.Operators.{unary_of, binary_of, function_of}
use Rattle.sv_ast.specs.declared.expression.Id.{Id}
use Rattle.const_eval.specs.declared.pending.Change.{Change}
use Rattle.const_eval.specs.declared.pending.Change.TheVariants as change
use Rattle.const_eval.specs.declared.pending.Operation.{Operation}
use Rattle.const_eval.specs.declared.pending.Operation.TheVariants as operation
use Rattle.const_eval.specs.declared.shape.Reduction.{Reduction}
use Rattle.const_eval.specs.declared.shape.Reduction.TheVariants as reduction
use Rattle.const_eval.specs.declared.shape.Comparison.{Comparison}
use Rattle.const_eval.specs.declared.shape.Comparison.TheVariants as comparison
use Rattle.const_eval.specs.Expressions.{refused_at, or_refused, ◌>>=◌}
use Rattle.net_ir.specs.declared.term.Term.{Term}
use Rattle.width_rules.specs.declared.pending.Shift.{Shift}
use Rattle.width_rules.specs.declared.pending.Shift.TheVariants as shift
use Rattle.width_rules.specs.declared.pending.Pending.{Alone, Changed, Combined, Shifted, Chosen}
use Rattle.width_rules.specs.declared.measured.Measured.{Measured}
use Rattle.width_rules.specs.Building.{one_of, two_of, turned_to, comparison_to, reduction_by}
use Rattle.width_rules.specs.Waiting.{term_in, own_term, holds_term}

-- a term with a size and a sign of its own
abbrev pub alone : ℕ → Bool → Term → Measured
alone size signed term = record { size = size; signed = signed; pending = Alone size term }

-- a term of one bit
abbrev pub bit : Term → Measured
bit term = alone 1 false term

-- the size and the sign at which two operands meet
abbrev pub meeting : Measured → Measured → ℕ
meeting a b = max a.size b.size

abbrev pub are_signed : Measured → Measured → Bool
are_signed a b = a.signed && b.signed

-- ---- one operand

-- what is done to an operand in its context
abbrev pub changed : Change → Measured → Measured
changed change a = record { size = a.size; signed = a.signed; pending = Changed change a.pending }

-- the bit of a reduction of an operand by itself, turned or not
abbrev pub reduced : Reduction → Bool → Measured → Measured
reduced reduction turn a = bit (turned_to turn (one_of (reduction_by reduction) 1 (own_term a)))

-- the bit that says whether an operand by itself is 0
abbrev pub denied : Measured → Measured
denied a = bit (one_of op.Not 1 (holds_term a))

-- an operand by itself, taken with a sign
abbrev pub cast : Bool → Measured → Measured
cast signed a = alone a.size signed (own_term a)

-- the operators before an operand
abbrev pub unary_by : Unary → Measured → Measured
unary_by unary.Plus a = a
unary_by unary.Minus a = changed change.Negate a
unary_by unary.LogicalNot a = denied a
unary_by unary.Not a = changed change.Invert a
unary_by unary.ReduceAnd a = reduced reduction.And false a
unary_by unary.ReduceNand a = reduced reduction.And true a
unary_by unary.ReduceOr a = reduced reduction.Or false a
unary_by unary.ReduceNor a = reduced reduction.Or true a
unary_by unary.ReduceXor a = reduced reduction.Xor false a
unary_by unary.ReduceXnor a = reduced reduction.Xor true a

-- an operator before an operand, by its sign
abbrev pub unary_on : Id → Measured → Result Measured Refusal
unary_on sign a = or_refused (refused_at Unexpected sign) (unary_of sign.name) >>= λ found. Ok (unary_by found a)

-- ---- two operands

-- an operation on two operands in their context
abbrev pub combined : Operation → Measured → Measured → Measured
combined operation a b = record { size = meeting a b; signed = are_signed a b; pending = Combined operation a.pending b.pending }

-- the bit of a comparison, turned or not: each operand is the other's context
abbrev pub compared : Comparison → Bool → Measured → Measured → Measured
compared comparison turn a b = bit (turned_to turn (comparison_to comparison s (term_in a.pending n s) (term_in b.pending n s)))
  where
    n : ℕ
    n = meeting a b

    s : Bool
    s = are_signed a b

-- a shift of an operand in its context, by another by itself
abbrev pub shifted : Shift → Measured → Measured → Measured
shifted shift a b = record { size = a.size; signed = a.signed; pending = Shifted shift a.pending (own_term b) }

-- whether two operands by themselves are not 0, joined by an operation on bits
abbrev pub both_hold : Op → Measured → Measured → Measured
both_hold op a b = bit (two_of op 1 (holds_term a) (holds_term b))

-- the operators between two operands; a power has no term
abbrev pub binary_by : Binary → Measured → Measured → Option Measured
binary_by binary.Power a b = None
binary_by binary.Multiply a b = Some (combined operation.Multiply a b)
binary_by binary.Divide a b = Some (combined operation.Divide a b)
binary_by binary.Remainder a b = Some (combined operation.Remainder a b)
binary_by binary.Add a b = Some (combined operation.Add a b)
binary_by binary.Subtract a b = Some (combined operation.Subtract a b)
binary_by binary.ShiftLeft a b = Some (shifted shift.Left a b)
binary_by binary.ShiftRight a b = Some (shifted shift.Right a b)
binary_by binary.ArithmeticShiftRight a b = Some (shifted shift.ArithmeticRight a b)
binary_by binary.Less a b = Some (compared comparison.Less false a b)
binary_by binary.AtMost a b = Some (compared comparison.Greater true a b)
binary_by binary.Greater a b = Some (compared comparison.Greater false a b)
binary_by binary.AtLeast a b = Some (compared comparison.Less true a b)
binary_by binary.Equal a b = Some (compared comparison.Equal false a b)
binary_by binary.Unequal a b = Some (compared comparison.Equal true a b)
binary_by binary.And a b = Some (combined operation.And a b)
binary_by binary.Xor a b = Some (combined operation.Xor a b)
binary_by binary.Xnor a b = Some (combined operation.Xnor a b)
binary_by binary.Or a b = Some (combined operation.Or a b)
binary_by binary.LogicalAnd a b = Some (both_hold op.And a b)
binary_by binary.LogicalOr a b = Some (both_hold op.Or a b)

-- an operator between two operands, by its sign
abbrev pub binary_on : Id → Measured → Measured → Result Measured Refusal
binary_on sign a b = or_refused (refused_at Unexpected sign) (binary_of sign.name) >>= λ found. or_refused (refused_at NotConstant sign) (binary_by found a b)

-- a choice between two operands by whether a condition by itself is not 0
abbrev pub chosen : Measured → Measured → Measured → Measured
chosen c a b = record { size = meeting a b; signed = are_signed a b; pending = Chosen (holds_term c) a.pending b.pending }

-- ---- system functions

-- the system functions; a logarithm has no term
abbrev pub function_by : Function → Measured → Option Measured
function_by function.Signed a = Some (cast true a)
function_by function.Unsigned a = Some (cast false a)
function_by function.Logarithm a = None

-- a system function, by its name
abbrev pub system_on : Id → Measured → Result Measured Refusal
system_on name a = or_refused (refused_at Unexpected name) (function_of name.name) >>= λ found. or_refused (refused_at NotConstant name) (function_by found a)
