use Rattle.std.proofs.Common.{◌≡◌, ◌∙◌, subst, sym, refl, true, false, set, [], ◌∷◌}
use Rattle.std.specs.Prelude.{Contains}
use Rattle.std.proofs.lemmas.Result.{on_ok_weaker}
use Rattle.code_isa.specs.Uses.{Rises, AddsReader}
use Rattle.code_isa.proofs.Readers.{row_read, up_to_row, reader_there, reader_last}
use Rattle.code_isa.proofs.uses.add_reader.Goals as goal

pub is_last-requires-clause-rises : goal.is_last-requires-clause-rises
is_last-requires-clause-rises c =
    let is = row_read c.args.rows.now.items c.args.slot c.index_mut-row.result.now c.requires.inside c.index_mut-row.ensures.value in
    subst Rises (sym (c.as_slice.ensures ∙ is)) (c.requires.rise c.args.slot)

pub is_last-requires-clause-below : goal.is_last-requires-clause-below
is_last-requires-clause-below c =
    let is = row_read c.args.rows.now.items c.args.slot c.index_mut-row.result.now c.requires.inside c.index_mut-row.ensures.value in
    up_to_row c.args.rows.now.items c.args.slot c.args.reader c.as_slice.result.now (c.as_slice.ensures ∙ is) c.requires.below

pub returns-then-is_last : goal.returns-then-is_last
returns-then-is_last c =
    let is = row_read c.args.rows.now.items c.args.slot c.index_mut-row.result.now c.requires.inside c.index_mut-row.ensures.value in
    reader_there c.args.rows.now.items c.args.slot c.args.reader c.index_mut-row.result.now c.requires.inside c.requires.rise is
    (subst (λ xs. Contains xs c.args.reader) c.as_slice.ensures (c.if-is_last.ensures.0 refl))

pub returns : goal.returns
returns c =
    let rows = c.args.rows.now.items in
    let row = c.index_mut-row.result.now in
    let is = row_read rows c.args.slot row c.requires.inside c.index_mut-row.ensures.value in
    let absent : Contains row c.args.reader → ⊥ = λ there. let yes : c.is_last.result ≡ true = c.is_last.ensures.1 (subst (λ xs. Contains xs c.args.reader) (sym c.as_slice.ensures) there) in let no : c.is_last.result ≡ false = c.if-is_last.false in cc in
    on_ok_weaker c.push.result (λ pushed. subst (λ xs. AddsReader rows (set rows c.args.slot xs) (c.args.slot ∷ []) c.args.reader) (sym pushed)
    (reader_last rows c.args.slot c.args.reader row c.requires.inside c.requires.rise is c.requires.below absent)) c.push.ensures.ok
