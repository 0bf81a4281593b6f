use Rattle.std.proofs.Common.{take}
use Rattle.driver_check.specs.code.Marks.{AreMarked}
use Rattle.driver_check.proofs.driven.mark_source.Given as goal

-- the runs so far are marked
abbrev pub invariant-loop-taken : goal.invariant-loop-taken
invariant-loop-taken l = AreMarked (take l.taken-index l.taken-items) l.number l.fn.rows.items l.rows.items
