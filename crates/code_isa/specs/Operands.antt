-- Which fields of an instruction its operation uses.
use Rattle.std.specs.Prelude.{ℕ, Bool, true, false}
use Rattle.bit_ops.specs.declared.operation.Op.{Op}
use Rattle.bit_ops.specs.declared.operation.Op.TheVariants.{Const, Zext, Sext, Slice, Concat, Not, Neg, And, Or, Xor, Add, Sub, Mul, DivU, DivS, ModU, ModS, Shl, ShrU, ShrS, Eq, LtU, LtS, RedAnd, RedOr, RedXor, Mux, Insert}

-- how many operands an operation takes from slots
abbrev pub operand_count : Op → ℕ
operand_count Const = 0
operand_count Zext = 1
operand_count Sext = 1
operand_count Slice = 1
operand_count Concat = 2
operand_count Not = 1
operand_count Neg = 1
operand_count And = 2
operand_count Or = 2
operand_count Xor = 2
operand_count Add = 2
operand_count Sub = 2
operand_count Mul = 2
operand_count DivU = 2
operand_count DivS = 2
operand_count ModU = 2
operand_count ModS = 2
operand_count Shl = 2
operand_count ShrU = 2
operand_count ShrS = 2
operand_count Eq = 2
operand_count LtU = 2
operand_count LtS = 2
operand_count RedAnd = 1
operand_count RedOr = 1
operand_count RedXor = 1
operand_count Mux = 3
operand_count Insert = 2

-- whether an operation names a position in its first operand
abbrev pub names_position : Op → Bool
names_position Slice = true
names_position Insert = true
names_position _ = false

-- whether an operation is the constant, whose one operand is no slot but the value that the instruction names
abbrev pub is_constant : Op → Bool
is_constant Const = true
is_constant _ = false
