use Rattle.std.proofs.Common.{◌≡◌, drop}
use Rattle.std.specs.List.{flat_map}
use Rattle.driver_check.specs.Written.{names_of}
use Rattle.driver_check.proofs.written.+refuse_first.Given as goal

abbrev pub decreases-refuse_first : goal.decreases-refuse_first
decreases-refuse_first l = goal.size-refuse_first l

-- the names of the rest are all names
abbrev pub invariant-loop-part : goal.invariant-loop-part
invariant-loop-part l = names_of l.target ≡ flat_map names_of (drop l.part-index l.part-items)
