use Rattle.std.proofs.Common.{sym, ◌∙◌, subst, arith}
use Rattle.std.proofs.lemmas.List.{get_or_read}
use Rattle.levelise.specs.declared.search.Mark.TheVariants.{New}
use Rattle.levelise.specs.Search.{IsConsistent}
use Rattle.levelise.proofs.Lists.{last_split}
use Rattle.levelise.proofs.Followed.{dropped, joined}
use Rattle.levelise.proofs.Steps.{edge_node, opened_next, nearer_opened}
use Rattle.levelise.proofs.search.Search.follow.Goals as goal

pub index-requires : goal.index-requires
index-requires c =
    omega (arith, edge_node c.args.g.now.reads c.args.self.now c.args.edge c.requires.inside c.requires.sound c.requires.last, c.requires.sound.sized, c.args.self.now.marks.ok.0)

pub open-requires-clause-node : goal.open-requires-clause-node
open-requires-clause-node c =
    edge_node c.args.g.now.reads c.args.self.now c.args.edge c.requires.inside c.requires.sound c.requires.last

pub returns-in_ok-open-in-New-clause-sound : goal.returns-in_ok-open-in-New-clause-sound
returns-in_ok-open-in-New-clause-sound c =
    let was = c.args.self.now in
    let node = edge_node c.args.g.now.reads was c.args.edge c.requires.inside c.requires.sound c.requires.last in
    let split = last_split was.pending.items c.args.edge c.pop.new.self.items _ c.requires.last was.pending.ok.0 c.pop.ensures.rest in
    opened_next c.args.g.now.reads (record was { pending = c.pop.new.self }) c.open.new.self was.pending.items c.args.edge c.requires.inside c.requires.sound split c.requires.in_last_part
    (sym (get_or_read was.marks.items c.args.edge.to _ (omega (arith, node, c.requires.sound.sized)) c.index.ensures New) ∙ c.in-New.is)
    c.in_ok-open-in-New.ensures.opened

pub returns-in_ok-open-in-New-clause-nearer : goal.returns-in_ok-open-in-New-clause-nearer
returns-in_ok-open-in-New-clause-nearer c =
    let was = c.args.self.now in
    let node = edge_node c.args.g.now.reads was c.args.edge c.requires.inside c.requires.sound c.requires.last in
    let split = last_split was.pending.items c.args.edge c.pop.new.self.items _ c.requires.last was.pending.ok.0 c.pop.ensures.rest in
    nearer_opened c.args.g.now.reads (record was { pending = c.pop.new.self }) c.open.new.self was.pending.items c.args.edge c.requires.inside c.requires.sound split c.requires.in_last_part
    (sym (get_or_read was.marks.items c.args.edge.to _ (omega (arith, node, c.requires.sound.sized)) c.index.ensures New) ∙ c.in-New.is)
    c.in_ok-open-in-New.ensures.opened

pub returns-in-Open-clause-sound : goal.returns-in-Open-clause-sound
returns-in-Open-clause-sound c =
    let was = c.args.self.now in
    let rows = c.args.g.now.reads in
    let node = edge_node rows was c.args.edge c.requires.inside c.requires.sound c.requires.last in
    let split = last_split was.pending.items c.args.edge c.pop.new.self.items _ c.requires.last was.pending.ok.0 c.pop.ensures.rest in
    let fewer = c.join_parts.ensures in
    subst (λ x. IsConsistent rows was.marks.items was.path.items c.join_parts.new.starts.items c.pop.new.self.items was.done.items x) (sym c.note-self.ensures)
    (joined rows was.marks.items was.path.items was.starts.items was.pending.items was.done.items was.least c.requires.sound c.pop.new.self.items c.args.edge split c.requires.in_last_part c.in-Open.place
    (sym (get_or_read was.marks.items c.args.edge.to _ (omega (arith, node, c.requires.sound.sized)) c.index.ensures New) ∙ c.in-Open.is)
    c.join_parts.new.starts.items fewer.rises fewer.kept fewer.only fewer.up_to)

pub returns-in-Done-clause-sound : goal.returns-in-Done-clause-sound
returns-in-Done-clause-sound c =
    let was = c.args.self.now in
    let rows = c.args.g.now.reads in
    let node = edge_node rows was c.args.edge c.requires.inside c.requires.sound c.requires.last in
    let split = last_split was.pending.items c.args.edge c.pop.new.self.items _ c.requires.last was.pending.ok.0 c.pop.ensures.rest in
    dropped rows was.marks.items was.path.items was.starts.items was.pending.items was.done.items was.least c.requires.sound c.pop.new.self.items c.args.edge split
    (sym (get_or_read was.marks.items c.args.edge.to _ (omega (arith, node, c.requires.sound.sized)) c.index.ensures New) ∙ c.in-Done.is)
