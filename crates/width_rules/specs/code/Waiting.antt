-- What operations on pending terms mean, and how many nodes their terms have.
use Rattle.std.specs.Prelude.{ℕ, ◌+◌, Bool, ⊤}
use Rattle.bit_ops.specs.Meaning.{shl_of, shr_u_of}
use Rattle.bit_ops.specs.declared.operation.Op.{Op}
use Rattle.bit_ops.specs.declared.operation.Op.TheVariants as op
use Rattle.sv_base.specs.declared.operator.Binary.TheVariants.{LogicalAnd, LogicalOr}
use Rattle.const_eval.specs.Meaning.{Meaning}
use Rattle.const_eval.specs.Operators.{arithmetic_right, binary_by}
use Rattle.width_rules.specs.declared.pending.Shift.{Shift}
use Rattle.width_rules.specs.declared.pending.Shift.TheVariants.{Left, Right, ArithmeticRight}
use Rattle.width_rules.specs.declared.pending.Pending.{Pending}
use Rattle.width_rules.specs.declared.pending.Pending.TheOpen as pending
use Rattle.width_rules.specs.declared.pending.Pending.TheOpen.{Pending-F}
use Rattle.width_rules.specs.declared.pending.Pending.TheFolds.{fold-Pending}
use Rattle.width_rules.specs.declared.taking.Taking.{Taking}
use Rattle.width_rules.specs.declared.taking.Taking.TheVariants as taking
use Rattle.width_rules.specs.Nodes.{nodes_of}

-- what a shift makes of a word of n bits
abbrev pub shifted_by : Shift → ℕ → Bool → ℕ → ℕ → ℕ
shifted_by Left n s = shl_of n
shifted_by Right n s = shr_u_of n
shifted_by ArithmeticRight n s = arithmetic_right n s

-- how many nodes its term has at most, from what its parts have
abbrev pub weight_layer : Pending-F ℕ → ℕ
weight_layer (pending.Alone width term) = 1 + nodes_of term
weight_layer (pending.Fill bit) = 2
weight_layer (pending.Changed change a) = 1 + a
weight_layer (pending.Combined operation a b) = 2 + a + b
weight_layer (pending.Shifted shift a amount) = 1 + a + nodes_of amount
weight_layer (pending.Chosen bit a b) = 1 + nodes_of bit + a + b

-- how many nodes the term of a pending one has at most, in any context
abbrev pub weight_of : Pending → ℕ
weight_of p = fold-Pending ℕ weight_layer p

-- how many nodes the positions of a select have at most
abbrev pub taking_weight : Taking → ℕ
taking_weight (taking.At a) = weight_of a.pending
taking_weight (taking.DownTo a b) = 0
taking_weight (taking.UpFrom a b) = weight_of a.pending
taking_weight (taking.DownFrom a b) = weight_of a.pending

-- an operation that joins the bits of conditions
abbrev pub IsBitwise : Op → Type 0
IsBitwise op.And = ⊤
IsBitwise op.Or = ⊤
IsBitwise other = ⊥

-- conditions that are joined by it
abbrev pub logical_by : Op → Meaning → Meaning → Meaning
logical_by op.And = binary_by LogicalAnd
logical_by other = binary_by LogicalOr
