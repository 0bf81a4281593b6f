use Rattle.std.proofs.Common.{◌≡◌, ◌++◌, take}
use Rattle.levelise.specs.Search.{edges_from}
use Rattle.levelise.proofs.search.add_edges.Given as goal

abbrev pub invariant-loop-to : goal.invariant-loop-to
invariant-loop-to l = l.pending.items ≡ l.initial.pending.items ++ edges_from l.from (take l.to-index l.row)
