use Rattle.std.proofs.Common.{ℕ, ◌<◌}
use Rattle.code_check.specs.code.Verdict.{IsNamedAt}
use Rattle.code_check.proofs.verdict.is_summarised.Given as goal

abbrev pub invariant-loop-k : goal.invariant-loop-k
invariant-loop-k l = (j : ℕ) → j < l.k → IsNamedAt l.m l.flow.inputs.items j
