use Rattle.driver_check.proofs.Marking.{MarkedBelow}
use Rattle.driver_check.proofs.driven.mark_run.Given as goal

-- the bits so far are marked
abbrev pub invariant-loop-k : goal.invariant-loop-k
invariant-loop-k l = MarkedBelow l.fn.run l.number l.k l.fn.row.items l.row.items
