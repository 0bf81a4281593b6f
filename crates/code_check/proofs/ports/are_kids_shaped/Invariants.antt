use Rattle.std.proofs.Common.{ℕ, ◌<◌, get_or}
use Rattle.code_isa.specs.declared.machine.Kid.{Kid}
use Rattle.code_isa.specs.Checks.{IsFaceShape}
use Rattle.code_check.proofs.ports.are_kids_shaped.Given as goal

abbrev pub invariant-loop-kid : goal.invariant-loop-kid
invariant-loop-kid l = (k : ℕ) (d : Kid) → k < l.kid-index → IsFaceShape (get_or l.kids k d).face (get_or l.kids k d).summary
