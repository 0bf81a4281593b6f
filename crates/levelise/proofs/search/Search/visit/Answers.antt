use Rattle.std.proofs.Common.{sym, ◌∙◌, arith}
use Rattle.std.proofs.lemmas.List.{get_or_read}
use Rattle.levelise.specs.declared.search.Mark.TheVariants.{New}
use Rattle.levelise.proofs.Steps.{opened_first}
use Rattle.levelise.proofs.search.Search.visit.Goals as goal

pub explore-requires-clause-sound : goal.explore-requires-clause-sound
explore-requires-clause-sound c =
    let was = c.args.self.now in
    opened_first c.args.g.now.reads was c.open.new.self c.args.node c.requires.sound c.requires.empty c.requires.node
    (sym (get_or_read was.marks.items c.args.node _ (omega (arith, c.requires.sound.sized)) c.index.ensures New) ∙ c.in-New.is)
    c.in_ok-open.ensures.opened
