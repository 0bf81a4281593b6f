-- The operators and functions of expressions, as tables (IEEE 1800-2017, 11.3).
use Rattle.std.specs.Prelude.{ℕ, List, [], ◌∷◌, Option, Bool, codes}
use Rattle.std.specs.Map.{lookup}
use Rattle.std.specs.List.{list_any}
use Rattle.std.specs.Str.{bytes_eq}
use Rattle.sv_base.specs.declared.operator.Unary.{Unary}
use Rattle.sv_base.specs.declared.operator.Unary.TheVariants as unary
use Rattle.sv_base.specs.declared.operator.Binary.{Binary}
use Rattle.sv_base.specs.declared.operator.Binary.TheVariants as binary
use Rattle.sv_base.specs.declared.operator.Level.{Level}
use Rattle.sv_base.specs.declared.operator.Level.TheVariants as level
use Rattle.sv_base.specs.declared.operator.Grouping.{Grouping}
use Rattle.sv_base.specs.declared.operator.Grouping.TheVariants.{ToTheLeft}
use Rattle.sv_base.specs.declared.operator.Function.{Function}
use Rattle.sv_base.specs.declared.operator.Function.TheVariants as function

-- what stands beside this text in a table, where it is there
abbrev pub row_of : {X : Type 0} → List (List ℕ × X) → List ℕ → Option X
row_of rows text = lookup (bytes_eq text) rows

-- the operators before an operand, by their spellings (11.4.3, 11.4.7 to 11.4.9)
abbrev pub unary_rows : List (List ℕ × Unary)
unary_rows =
    (codes "+", unary.Plus)
    ∷ (codes "-", unary.Minus)
    ∷ (codes "!", unary.LogicalNot)
    ∷ (codes "~", unary.Not)
    ∷ (codes "&", unary.ReduceAnd)
    ∷ (codes "~&", unary.ReduceNand)
    ∷ (codes "|", unary.ReduceOr)
    ∷ (codes "~|", unary.ReduceNor)
    ∷ (codes "^", unary.ReduceXor)
    ∷ (codes "~^", unary.ReduceXnor)
    ∷ (codes "^~", unary.ReduceXnor)
    ∷ []

-- the operators between two operands, by their spellings (11.4.3 to 11.4.8, 11.4.10)
abbrev pub binary_rows : List (List ℕ × Binary)
binary_rows =
    (codes "**", binary.Power)
    ∷ (codes "*", binary.Multiply)
    ∷ (codes "/", binary.Divide)
    ∷ (codes "%", binary.Remainder)
    ∷ (codes "+", binary.Add)
    ∷ (codes "-", binary.Subtract)
    ∷ (codes "<<", binary.ShiftLeft)
    ∷ (codes "<<<", binary.ShiftLeft)
    ∷ (codes ">>", binary.ShiftRight)
    ∷ (codes ">>>", binary.ArithmeticShiftRight)
    ∷ (codes "<", binary.Less)
    ∷ (codes "<=", binary.AtMost)
    ∷ (codes ">", binary.Greater)
    ∷ (codes ">=", binary.AtLeast)
    ∷ (codes "==", binary.Equal)
    ∷ (codes "!=", binary.Unequal)
    ∷ (codes "&", binary.And)
    ∷ (codes "^", binary.Xor)
    ∷ (codes "~^", binary.Xnor)
    ∷ (codes "^~", binary.Xnor)
    ∷ (codes "|", binary.Or)
    ∷ (codes "&&", binary.LogicalAnd)
    ∷ (codes "||", binary.LogicalOr)
    ∷ []

-- the system functions, by their names (11.7, 20.8.1)
abbrev pub function_rows : List (List ℕ × Function)
function_rows = (codes "$signed", function.Signed) ∷ (codes "$unsigned", function.Unsigned) ∷ (codes "$clog2", function.Logarithm) ∷ []

-- the operator before an operand that a text spells
unfoldable pub unary_of : List ℕ → Option Unary
unary_of text = row_of unary_rows text

-- the operator between two operands that a text spells
unfoldable pub binary_of : List ℕ → Option Binary
binary_of text = row_of binary_rows text

-- the operators of the standard outside the subset (11.4.5)
abbrev pub refused_operators : List (List ℕ)
refused_operators = codes "===" ∷ codes "!==" ∷ []

-- one of these
unfoldable pub is_refused_operator : List ℕ → Bool
is_refused_operator text = list_any (bytes_eq text) refused_operators

-- the system function that a text names
unfoldable pub function_of : List ℕ → Option Function
function_of text = row_of function_rows text

-- the level of an operator between two operands (table 11-2)
abbrev pub level_of : Binary → Level
level_of binary.Power = level.Power
level_of binary.Multiply = level.Product
level_of binary.Divide = level.Product
level_of binary.Remainder = level.Product
level_of binary.Add = level.Sum
level_of binary.Subtract = level.Sum
level_of binary.ShiftLeft = level.Shift
level_of binary.ShiftRight = level.Shift
level_of binary.ArithmeticShiftRight = level.Shift
level_of binary.Less = level.Comparison
level_of binary.AtMost = level.Comparison
level_of binary.Greater = level.Comparison
level_of binary.AtLeast = level.Comparison
level_of binary.Equal = level.Equality
level_of binary.Unequal = level.Equality
level_of binary.And = level.And
level_of binary.Xor = level.Xor
level_of binary.Xnor = level.Xor
level_of binary.Or = level.Or
level_of binary.LogicalAnd = level.LogicalAnd
level_of binary.LogicalOr = level.LogicalOr

-- how tightly a level binds, 1 the loosest
abbrev pub tightness : Level → ℕ
tightness level.LogicalOr = 1
tightness level.LogicalAnd = 2
tightness level.Or = 3
tightness level.Xor = 4
tightness level.And = 5
tightness level.Equality = 6
tightness level.Comparison = 7
tightness level.Shift = 8
tightness level.Sum = 9
tightness level.Product = 10
tightness level.Power = 11

-- how the operators of a level are grouped (11.3.2)
abbrev pub grouping_of : Level → Grouping
grouping_of level.LogicalOr = ToTheLeft
grouping_of level.LogicalAnd = ToTheLeft
grouping_of level.Or = ToTheLeft
grouping_of level.Xor = ToTheLeft
grouping_of level.And = ToTheLeft
grouping_of level.Equality = ToTheLeft
grouping_of level.Comparison = ToTheLeft
grouping_of level.Shift = ToTheLeft
grouping_of level.Sum = ToTheLeft
grouping_of level.Product = ToTheLeft
grouping_of level.Power = ToTheLeft
