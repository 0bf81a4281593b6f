use Rattle.std.proofs.Common.{◌≡◌, ◌+◌, drop}
use Rattle.net_ir.specs.Target.{target_width}
use Rattle.net_values.proofs.target.+target_width.Given as goal
use Rattle.net_values.proofs.Stores.{width_of_all}

abbrev pub decreases-target_width : goal.decreases-target_width
decreases-target_width l = goal.size-target_width l

-- the width so far and that of the rest are the whole
abbrev pub invariant-loop-part : goal.invariant-loop-part
invariant-loop-part l = l.width + width_of_all l.vars (drop l.part-index l.part-items) ≡ target_width l.vars l.target
