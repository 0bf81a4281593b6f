use Rattle.std.proofs.Common.{ℕ, ◌<◌}
use Rattle.std.specs.Prelude.{Contains}
use Rattle.code_check.specs.code.Sets.{IsIn}
use Rattle.code_check.proofs.verdict.is_named.Given as goal

abbrev pub invariant-loop-p : goal.invariant-loop-p
invariant-loop-p l = (q : ℕ) → q < l.p → IsIn l.set q → Contains l.row q
