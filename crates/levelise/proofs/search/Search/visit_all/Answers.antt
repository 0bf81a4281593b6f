use Rattle.std.proofs.Common.{arith}
use Rattle.levelise.proofs.Steps.{all_done}
use Rattle.levelise.proofs.search.Search.visit_all.Goals as goal

pub returns-clause-all : goal.returns-clause-all
returns-clause-all c =
    let now = c.loop-node in
    all_done c.args.g.now.reads now.self now.invariant.sound now.invariant.empty (λ a h. now.invariant.met a (omega arith))
