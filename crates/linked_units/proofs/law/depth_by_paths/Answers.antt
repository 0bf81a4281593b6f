use Rattle.linked_units.proofs.Greatest.{depth_greatest}
use Rattle.linked_units.proofs.law.depth_by_paths.Goals as goal

pub returns : goal.returns
returns c = depth_greatest
