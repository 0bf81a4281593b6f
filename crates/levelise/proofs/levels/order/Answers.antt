use Rattle.std.proofs.Common.{sym, subst}
use Rattle.levelise.specs.Graph.{IsLevelling}
use Rattle.levelise.proofs.Results.{levelling_found, least_found}
use Rattle.levelise.proofs.levels.order.Goals as goal

pub returns-in-Some-clause-cycle : goal.returns-in-Some-clause-cycle
returns-in-Some-clause-cycle c =
    let known = c.in_ok-search.ensures in
    least_found c.args.g.now.reads c.in_ok-search.search known.sound known.all c.in-Some.node c.in-Some.is

pub returns-in-None-clause-ok : goal.returns-in-None-clause-ok
returns-in-None-clause-ok c =
    let known = c.in_ok-search.ensures in
    subst (λ xs. IsLevelling c.args.g.now.reads xs) (sym c.from_vec.ensures) (levelling_found c.args.g.now.reads c.in_ok-search.search known.sound known.all c.in-None.is)
