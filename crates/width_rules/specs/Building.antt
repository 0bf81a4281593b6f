-- Terms of operations.
use Rattle.std.specs.Prelude.{ℕ, Bool, ◌==◌, [], ◌∷◌, if◌then◌else◌}
use Rattle.bit_ops.specs.declared.operation.Op.{Op}
use Rattle.bit_ops.specs.declared.operation.Op.TheVariants as op
use Rattle.const_eval.specs.declared.pending.Change.{Change}
use Rattle.const_eval.specs.declared.pending.Change.TheVariants.{Negate, Invert}
use Rattle.const_eval.specs.declared.pending.Operation.{Operation}
use Rattle.const_eval.specs.declared.pending.Operation.TheVariants.{Add, Subtract, Multiply, Divide, Remainder, And, Or, Xor, Xnor}
use Rattle.const_eval.specs.declared.shape.Reduction.{Reduction}
use Rattle.const_eval.specs.declared.shape.Reduction.TheVariants as reduction
use Rattle.const_eval.specs.declared.shape.Comparison.{Comparison}
use Rattle.const_eval.specs.declared.shape.Comparison.TheVariants.{Equal, Less, Greater}
use Rattle.net_ir.specs.declared.term.Term.{Term, Apply}
use Rattle.width_rules.specs.declared.pending.Shift.{Shift}
use Rattle.width_rules.specs.declared.pending.Shift.TheVariants.{Left, Right, ArithmeticRight}

-- an operation on one term, on two, and a choice between two
abbrev pub one_of : Op → ℕ → Term → Term
one_of operation width a = Apply operation width 0 (a ∷ [])

abbrev pub two_of : Op → ℕ → Term → Term → Term
two_of operation width a b = Apply operation width 0 (a ∷ b ∷ [])

abbrev pub choice_of : ℕ → Term → Term → Term → Term
choice_of width bit a b = Apply op.Mux width 0 (bit ∷ a ∷ b ∷ [])

-- a term of a width at a size
abbrev pub extended_to : ℕ → Bool → ℕ → Term → Term
extended_to n s width term = if width == n then term else one_of (if s then op.Sext else op.Zext) n term

-- a term of a size cut to a width
abbrev pub cut_to : ℕ → ℕ → Term → Term
cut_to width n term = if width == n then term else one_of op.Slice width term

-- the operation that changes one term
abbrev pub change_by : Change → Op
change_by Negate = op.Neg
change_by Invert = op.Not

-- the operation that makes one of two terms; of `^~` it is the one whose bits are then turned
abbrev pub operation_by : Operation → Bool → Op
operation_by Add s = op.Add
operation_by Subtract s = op.Sub
operation_by Multiply s = op.Mul
operation_by Divide s = if s then op.DivS else op.DivU
operation_by Remainder s = if s then op.ModS else op.ModU
operation_by And s = op.And
operation_by Or s = op.Or
operation_by Xor s = op.Xor
operation_by Xnor s = op.Xor

-- what is made of two terms of a size
abbrev pub combined_to : Operation → ℕ → Bool → Term → Term → Term
combined_to Xnor n s a b = one_of op.Not n (two_of op.Xor n a b)
combined_to operation n s a b = two_of (operation_by operation s) n a b

-- the operation of a shift
abbrev pub shift_by : Shift → Bool → Op
shift_by Left s = op.Shl
shift_by Right s = op.ShrU
shift_by ArithmeticRight s = if s then op.ShrS else op.ShrU

-- a bit of a term, turned or not
abbrev pub turned_to : Bool → Term → Term
turned_to turn bit = if turn then one_of op.Not 1 bit else bit

-- the bit of a comparison of two terms of one size
abbrev pub comparison_to : Comparison → Bool → Term → Term → Term
comparison_to Equal s a b = two_of op.Eq 1 a b
comparison_to Less s a b = two_of (if s then op.LtS else op.LtU) 1 a b
comparison_to Greater s a b = two_of (if s then op.LtS else op.LtU) 1 b a

-- the operation of a reduction
abbrev pub reduction_by : Reduction → Op
reduction_by reduction.And = op.RedAnd
reduction_by reduction.Or = op.RedOr
reduction_by reduction.Xor = op.RedXor
