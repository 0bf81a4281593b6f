use Rattle.std.proofs.Common.{◌≡◌, ◌-◌, ◌^◌}
use Rattle.std.specs.Prelude.{nat_le}
use Rattle.bit_ops.specs.declared.value.TheConstants.{MAX_WIDTH}
use Rattle.const_eval.specs.Operators.{least_from, logarithm}
use Rattle.const_eval.proofs.power.logarithm.Given as goal

abbrev pub invariant-loop-k : goal.invariant-loop-k
invariant-loop-k l = least_from (λ k. nat_le l.fn.a (2 ^ k)) l.k (MAX_WIDTH - l.k) ≡ logarithm l.fn.a
