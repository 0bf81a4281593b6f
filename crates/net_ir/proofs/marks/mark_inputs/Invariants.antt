use Rattle.std.proofs.Common.{◌≡◌, drop}
use Rattle.net_ir.specs.Marks.{mark_all}
use Rattle.net_ir.specs.code.Classing.{inputs_read}
use Rattle.net_ir.proofs.marks.mark_inputs.Given as goal

-- the rest of the marks gives all of them
abbrev pub invariant-loop-input : goal.invariant-loop-input
invariant-loop-input l = mark_all (inputs_read (drop l.input-index l.inputs)) l.marks.items ≡ mark_all (inputs_read l.inputs) l.fn.marks.items
