use Rattle.levelise.proofs.Paths.{cycle_free}
use Rattle.levelise.proofs.graph.levelling_excludes_cycles.Goals as goal

pub returns : goal.returns
returns c = cycle_free
