use Rattle.std.proofs.Common.{◌≡◌, fold, take}
use Rattle.levelise.specs.Search.{noted}
use Rattle.levelise.proofs.search.note_all.Given as goal

abbrev pub invariant-loop-node : goal.invariant-loop-node
invariant-loop-node l = l.least ≡ fold noted l.fn.least (take l.node-index l.part)
