use Rattle.std.proofs.Common.{sym, subst, ◌∙◌, [], ◌∷◌, set}
use Rattle.std.proofs.lemmas.List.{get_or_default}
use Rattle.driver_check.specs.code.Marks.{AreMarked}
use Rattle.driver_check.proofs.Rows.{there, one_marked}
use Rattle.driver_check.proofs.driven.mark_taken.Goals as goal

pub returns : goal.returns
returns c =
    let rows = c.args.rows.now.items in
    let t = c.args.taken in
    let taken_out = c.into_vec-row.ensures ∙ c.replace.ensures.value ∙ c.index_mut.ensures.value ∙ get_or_default rows t.var c.index_mut.result.now [] (there rows t c.requires) in
    subst (λ r. AreMarked (t ∷ []) c.args.number rows (set (set rows t.var c.replace.new.dest) t.var r)) (sym c.from_vec.ensures)
    (one_marked t c.args.number rows c.into_vec-row.result.items c.mark_run.new.row.items c.replace.new.dest c.requires taken_out c.mark_run.ensures)
