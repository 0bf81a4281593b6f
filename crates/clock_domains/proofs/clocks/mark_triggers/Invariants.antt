use Rattle.std.proofs.Common.{◌≡◌, length}
use Rattle.net_ir.specs.Marks.{mark_all}
use Rattle.net_ir.specs.code.Classing.{clocked_by}
use Rattle.clock_domains.proofs.clocks.mark_triggers.Given as goal

-- the rest of the marks gives all of them
abbrev pub invariant-loop-rest : goal.invariant-loop-rest
invariant-loop-rest l = mark_all (clocked_by l.rest) l.marks.items ≡ mark_all (clocked_by l.triggers) l.fn.marks.items

abbrev pub decreases-loop-rest : goal.decreases-loop-rest
decreases-loop-rest l = length l.rest
