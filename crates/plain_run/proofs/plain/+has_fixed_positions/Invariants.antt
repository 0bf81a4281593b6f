use Rattle.std.proofs.Common.{◌≡◌, drop}
use Rattle.std.specs.List.{list_all}
use Rattle.plain_run.specs.code.Timely.{has_fixed_positions}
use Rattle.plain_run.proofs.plain.+has_fixed_positions.Given as goal

abbrev pub decreases-has_fixed_positions : goal.decreases-has_fixed_positions
decreases-has_fixed_positions l = goal.size-has_fixed_positions l

-- the rest of the parts decides
abbrev pub invariant-loop-part : goal.invariant-loop-part
invariant-loop-part l = list_all has_fixed_positions (drop l.part-index l.part-items) ≡ has_fixed_positions l.target
