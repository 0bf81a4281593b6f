use Rattle.std.proofs.Common.{◌≡◌, ◌++◌, take}
use Rattle.std.specs.List.{flat_map}
use Rattle.code_isa.specs.declared.machine.Kid.{Kid}
use Rattle.code_isa.specs.Faces.{output_widths}
use Rattle.code_isa.proofs.slots.add_outputs.Given as goal

abbrev pub invariant-loop-kid : goal.invariant-loop-kid
invariant-loop-kid l = l.widths.items ≡ l.fn.widths.items ++ flat_map (λ (kid : Kid). output_widths kid.face) (take l.kid-index l.kids)
