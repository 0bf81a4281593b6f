use Rattle.std.proofs.Common.{ℕ, ◌≡◌, ◌-◌, ◌<◌, length, take, drop, refl, ap, ◌∙◌}
use Rattle.std.proofs.lemmas.List.{take_rest}
use Rattle.std.proofs.lemmas.List.Elements.{All-take, All-drop}
use Rattle.levelise.proofs.Lists.{last_split}
use Rattle.levelise.proofs.Steps.{consistent_at, path_nodes, settled_next, nearer_settled}
use Rattle.levelise.proofs.search.Search.close.Goals as goal

pub settle-requires : goal.settle-requires
settle-requires c =
    let was = c.args.self.now in
    let fits : ℕ → Type 0 = λ a. a < length was.marks.items in
    rw c.deref.ensures.value
    (All-take fits (length was.path.items - c.args.start) (drop c.args.start was.path.items) (All-drop fits c.args.start was.path.items (path_nodes c.args.g.now.reads was c.requires.sound)))

pub returns-clause-sound : goal.returns-clause-sound
returns-clause-sound c =
    let was = c.args.self.now in
    let rows = c.args.g.now.reads in
    let split = last_split was.starts.items c.args.start c.pop.new.self.items _ c.requires.last was.starts.ok.0 c.pop.ensures.rest in
    let part = take (length c.deref.result.now - c.args.start) (drop c.args.start c.deref.result.now) in
    let whole : part ≡ drop c.args.start was.path.items = take_rest c.deref.result.now c.args.start ∙ ap (λ xs. drop c.args.start xs) c.deref.ensures.value in
    let now = c.in_ok-settle.ensures in
    consistent_at rows _ c.settle.new.marks.items _ c.truncate.new.self.items _ c.pop.new.self.items _ was.pending.items _ c.settle.new.done.items _ c.note_part-self.result
    refl c.truncate.ensures.items refl refl now.list refl
    (settled_next rows was c.requires.sound c.args.start c.pop.new.self.items split c.requires.followed part whole c.settle.new.marks.items now.size now.settled now.others c.note_part-self.result c.note_part-self.ensures)

pub returns-clause-nearer : goal.returns-clause-nearer
returns-clause-nearer c =
    let was = c.args.self.now in
    let rows = c.args.g.now.reads in
    let split = last_split was.starts.items c.args.start c.pop.new.self.items _ c.requires.last was.starts.ok.0 c.pop.ensures.rest in
    let part = take (length c.deref.result.now - c.args.start) (drop c.args.start c.deref.result.now) in
    let whole : part ≡ drop c.args.start was.path.items = take_rest c.deref.result.now c.args.start ∙ ap (λ xs. drop c.args.start xs) c.deref.ensures.value in
    let now = c.in_ok-settle.ensures in
    nearer_settled rows was c.requires.sound c.args.start c.pop.new.self.items split c.requires.followed part whole c.settle.new.marks.items now.size now.settled now.others c.note_part-self.result c.note_part-self.ensures
