use Rattle.std.proofs.Common.{◌≡◌, drop}
use Rattle.net_ir.specs.Marks.{mark_all}
use Rattle.plain_run.proofs.marks.mark_each.Given as goal

-- the rest of the marks gives all of them
abbrev pub invariant-loop-var : goal.invariant-loop-var
invariant-loop-var l = mark_all (drop l.var-index l.names) l.marks.items ≡ mark_all l.names l.fn.marks.items
