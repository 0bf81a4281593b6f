use Rattle.std.proofs.Common.{◌≡◌, drop}
use Rattle.net_ir.specs.Marks.{mark_all}
use Rattle.net_ir.specs.code.Classing.{outputs_read}
use Rattle.net_ir.proofs.marks.mark_outputs.Given as goal

-- the rest of the marks gives all of them
abbrev pub invariant-loop-output : goal.invariant-loop-output
invariant-loop-output l = mark_all (outputs_read (drop l.output-index l.outputs)) l.marks.items ≡ mark_all (outputs_read l.outputs) l.fn.marks.items
