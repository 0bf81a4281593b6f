-- What operators and functions make of what was measured stands for what they mean.
use Rattle.std.proofs.Common.{ℕ, Bool, true, false, max, ◌&&◌, List, Ok, refl}
use Rattle.bit_ops.specs.declared.operation.Op.TheVariants as op
use Rattle.sv_base.specs.declared.kind.Kind.TheVariants.{NotConstant, Unexpected}
use Rattle.sv_base.specs.declared.operator.Unary.{Unary}
use Rattle.sv_base.specs.declared.operator.Unary.TheVariants as unary
use Rattle.sv_base.specs.declared.operator.Binary.{Binary}
use Rattle.sv_base.specs.declared.operator.Binary.TheVariants as binary
use Rattle.sv_base.specs.declared.operator.Function.{Function}
use Rattle.sv_base.specs.declared.operator.Function.TheVariants as function
use Rattle.sv_base.specs.Operators.{unary_of, binary_of, function_of}
use Rattle.sv_ast.specs.declared.expression.Id.{Id}
use Rattle.net_ir.specs.declared.term.Term.{Term}
use Rattle.net_ir.specs.Value.{AreWordsOf}
use Rattle.net_ir.specs.Terms.{Has}
use Rattle.const_eval.specs.declared.pending.Change.TheVariants as change
use Rattle.const_eval.specs.declared.pending.Operation.TheVariants as operation
use Rattle.const_eval.specs.declared.shape.Reduction.{Reduction}
use Rattle.const_eval.specs.declared.shape.Reduction.TheVariants as reduction
use Rattle.const_eval.specs.declared.shape.Comparison.{Comparison}
use Rattle.const_eval.specs.declared.shape.Comparison.TheVariants as comparison
use Rattle.const_eval.specs.Meaning.{Meaning, own}
use Rattle.const_eval.specs.Meaning as meaning
use Rattle.const_eval.specs.Shapes.{turned, reduced_by, compared_by}
use Rattle.const_eval.specs.Operators as operators
use Rattle.const_eval.specs.Expressions as expressions
use Rattle.const_eval.specs.Expressions.{refused_at, or_refused}
use Rattle.const_eval.specs.Alike.{Alike}
use Rattle.const_eval.proofs.Judged.{alike_after}
use Rattle.width_rules.specs.declared.pending.Shift.TheVariants as shift
use Rattle.width_rules.specs.declared.measured.Measured.{Measured}
use Rattle.width_rules.specs.Waiting.{own_term}
use Rattle.width_rules.specs.Operations as spec
use Rattle.width_rules.specs.code.Standing.{Stands}
use Rattle.width_rules.proofs.Standings.{ValuesFit, WordsOfSigned, one_wide, alone_stands, changed_stands, combined_stands, shifted_stands, reduced_has, compared_has, denied_has, logical_stands, cast_stands}

module _ (law : ValuesFit) (word : WordsOfSigned) (ws u : List ℕ) where
  -- one bit
  pub bit_stands : (t : Term) (x : ℕ) → AreWordsOf ws u → Has ws u t 1 x → Stands ws u (spec.bit t) (meaning.alone 1 false x)
  bit_stands t x words has = alone_stands law word ws u 1 t false x words one_wide has

  reduced_stands : (which : Reduction) (turn : Bool) (a : Measured) (m : Meaning) → Stands ws u a m →
      Stands ws u (spec.reduced which turn a) (meaning.reduced (λ w x. turned turn (reduced_by which w x)) m)
  reduced_stands which turn a m h = bit_stands _ _ h.words (reduced_has ws u which turn a m h)

  compared_stands : (which : Comparison) (turn : Bool) (a b : Measured) (m n : Meaning) → Stands ws u a m → Stands ws u b n →
      Stands ws u (spec.compared which turn a b) (meaning.compared (λ w s x y. turned turn (compared_by which w s x y)) m n)
  compared_stands which turn a b m n h j =
      bit_stands _ _ h.words (compared_has ws u which turn a b m n (max a.size b.size) (a.signed && b.signed) h j refl refl)

  unary_by_stands : (o : Unary) (a : Measured) (m : Meaning) → Stands ws u a m → Stands ws u (spec.unary_by o a) (operators.unary_by o m)
  unary_by_stands unary.Plus a m h = h
  unary_by_stands unary.Minus a m h = changed_stands ws u change.Negate a m h
  unary_by_stands unary.LogicalNot a m h = bit_stands _ _ h.words (denied_has ws u a m h)
  unary_by_stands unary.Not a m h = changed_stands ws u change.Invert a m h
  unary_by_stands unary.ReduceAnd a m h = reduced_stands reduction.And false a m h
  unary_by_stands unary.ReduceNand a m h = reduced_stands reduction.And true a m h
  unary_by_stands unary.ReduceOr a m h = reduced_stands reduction.Or false a m h
  unary_by_stands unary.ReduceNor a m h = reduced_stands reduction.Or true a m h
  unary_by_stands unary.ReduceXor a m h = reduced_stands reduction.Xor false a m h
  unary_by_stands unary.ReduceXnor a m h = reduced_stands reduction.Xor true a m h

  pub unary_on_stands : (sign : Id) (a : Measured) (m : Meaning) → Stands ws u a m → Alike (Stands ws u) (spec.unary_on sign a) (expressions.unary_on sign m)
  unary_on_stands sign a m h =
      alike_after (Stands ws u) (or_refused (refused_at Unexpected sign) (unary_of sign.name)) (λ found. Ok (spec.unary_by found a)) (λ found. Ok (operators.unary_by found m))
      (λ found. unary_by_stands found a m h)

  binary_by_stands : (o : Binary) (sign : Id) (a b : Measured) (m n : Meaning) → Stands ws u a m → Stands ws u b n →
      Alike (Stands ws u) (or_refused (refused_at NotConstant sign) (spec.binary_by o a b)) (expressions.binary_judged o false sign m n)
  binary_by_stands binary.Power sign a b m n h j = refl
  binary_by_stands binary.Multiply sign a b m n h j = combined_stands ws u operation.Multiply a b m n h j
  binary_by_stands binary.Divide sign a b m n h j = combined_stands ws u operation.Divide a b m n h j
  binary_by_stands binary.Remainder sign a b m n h j = combined_stands ws u operation.Remainder a b m n h j
  binary_by_stands binary.Add sign a b m n h j = combined_stands ws u operation.Add a b m n h j
  binary_by_stands binary.Subtract sign a b m n h j = combined_stands ws u operation.Subtract a b m n h j
  binary_by_stands binary.ShiftLeft sign a b m n h j = shifted_stands ws u shift.Left a b m n h j
  binary_by_stands binary.ShiftRight sign a b m n h j = shifted_stands ws u shift.Right a b m n h j
  binary_by_stands binary.ArithmeticShiftRight sign a b m n h j = shifted_stands ws u shift.ArithmeticRight a b m n h j
  binary_by_stands binary.Less sign a b m n h j = compared_stands comparison.Less false a b m n h j
  binary_by_stands binary.AtMost sign a b m n h j = compared_stands comparison.Greater true a b m n h j
  binary_by_stands binary.Greater sign a b m n h j = compared_stands comparison.Greater false a b m n h j
  binary_by_stands binary.AtLeast sign a b m n h j = compared_stands comparison.Less true a b m n h j
  binary_by_stands binary.Equal sign a b m n h j = compared_stands comparison.Equal false a b m n h j
  binary_by_stands binary.Unequal sign a b m n h j = compared_stands comparison.Equal true a b m n h j
  binary_by_stands binary.And sign a b m n h j = combined_stands ws u operation.And a b m n h j
  binary_by_stands binary.Xor sign a b m n h j = combined_stands ws u operation.Xor a b m n h j
  binary_by_stands binary.Xnor sign a b m n h j = combined_stands ws u operation.Xnor a b m n h j
  binary_by_stands binary.Or sign a b m n h j = combined_stands ws u operation.Or a b m n h j
  binary_by_stands binary.LogicalAnd sign a b m n h j = logical_stands ws u op.And tt a b m n (spec.both_hold op.And a b) h j (λ x has. bit_stands _ x h.words has)
  binary_by_stands binary.LogicalOr sign a b m n h j = logical_stands ws u op.Or tt a b m n (spec.both_hold op.Or a b) h j (λ x has. bit_stands _ x h.words has)

  pub binary_on_stands : (sign : Id) (a b : Measured) (m n : Meaning) → Stands ws u a m → Stands ws u b n →
      Alike (Stands ws u) (spec.binary_on sign a b) (expressions.binary_on false sign m n)
  binary_on_stands sign a b m n h j =
      alike_after (Stands ws u) (or_refused (refused_at Unexpected sign) (binary_of sign.name)) (λ found. or_refused (refused_at NotConstant sign) (spec.binary_by found a b))
      (λ found. expressions.binary_judged found false sign m n) (λ found. binary_by_stands found sign a b m n h j)

  cast_alone : (signed : Bool) (a : Measured) (m : Meaning) → Stands ws u a m → Stands ws u (spec.cast signed a) (meaning.alone m.size signed (own m))
  cast_alone signed a m h = cast_stands ws u a m signed (spec.cast signed a) h (λ wide has. alone_stands law word ws u a.size (own_term a) signed (own m) h.words wide has)

  function_by_stands : (f : Function) (name : Id) (a : Measured) (m : Meaning) → Stands ws u a m →
      Alike (Stands ws u) (or_refused (refused_at NotConstant name) (spec.function_by f a)) (expressions.function_judged f false name m)
  function_by_stands function.Signed name a m h = cast_alone true a m h
  function_by_stands function.Unsigned name a m h = cast_alone false a m h
  function_by_stands function.Logarithm name a m h = refl

  pub system_on_stands : (name : Id) (a : Measured) (m : Meaning) → Stands ws u a m → Alike (Stands ws u) (spec.system_on name a) (expressions.system_on false name m)
  system_on_stands name a m h =
      alike_after (Stands ws u) (or_refused (refused_at Unexpected name) (function_of name.name)) (λ found. or_refused (refused_at NotConstant name) (spec.function_by found a))
      (λ found. expressions.function_judged found false name m) (λ found. function_by_stands found name a m h)
