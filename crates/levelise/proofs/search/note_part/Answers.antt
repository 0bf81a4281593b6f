use Rattle.std.proofs.Common.{sym, subst}
use Rattle.levelise.specs.Search.{NotesPart}
use Rattle.levelise.proofs.Marks.{notes_part}
use Rattle.levelise.proofs.search.note_part.Goals as goal

pub returns-then-part-gt1 : goal.returns-then-part-gt1
returns-then-part-gt1 c =
    subst (λ x. NotesPart c.args.least c.args.part.now x) (sym c.note_all.ensures) (notes_part c.args.least c.args.part.now c.if-part-gt1.true)
