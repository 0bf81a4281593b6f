use Rattle.std.proofs.Common.{◌≡◌, drop}
use Rattle.net_ir.specs.Marks.{mark_all}
use Rattle.net_ir.specs.code.Classing.{clocked_by}
use Rattle.net_ir.proofs.marks.mark_triggers.Given as goal

-- the rest of the marks gives all of them
abbrev pub invariant-loop-trigger : goal.invariant-loop-trigger
invariant-loop-trigger l = mark_all (clocked_by (drop l.trigger-index l.triggers)) l.marks.items ≡ mark_all (clocked_by l.triggers) l.fn.marks.items
