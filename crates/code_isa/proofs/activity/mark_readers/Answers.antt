use Rattle.std.proofs.Common.{◌≡◌, ◌∙◌, ◌+◌, ◌<◌, ◌≤◌, ap, subst, sym, arith, length, get_or}
use Rattle.std.specs.Prelude.{All}
use Rattle.code_isa.specs.Uses.{row_of}
use Rattle.code_isa.specs.Activity.{MarksRow}
use Rattle.code_isa.proofs.Marking.{row_at, readers_low, readers_high, row_readers}
use Rattle.code_isa.proofs.activity.mark_readers.Goals as goal

pub mark_row-requires-clause-low : goal.mark_row-requires-clause-low
mark_row-requires-clause-low c =
    let row = c.as_slice-readers.result.now in
    let same = c.as_slice.ensures in
    let is : row ≡ row_of c.args.uses.now.rows c.args.slot =
    c.as_slice-readers.ensures ∙ row_at c.args.uses.now.rows c.args.slot c.index-as_slice-slot.result (omega (arith, c.requires.uses.sized)) (c.index-as_slice-slot.is ∙ ap (λ rows. get_or rows c.args.slot c.index-as_slice-slot.result) same) in
    subst (λ first. All (λ reader. first ≤ reader) row) (sym c.requires.first) (readers_low c.args.m.now c.args.uses.now.rows c.args.slot row c.requires.uses is)

pub mark_row-requires-clause-high : goal.mark_row-requires-clause-high
mark_row-requires-clause-high c =
    let row = c.as_slice-readers.result.now in
    let same = c.as_slice.ensures in
    let is : row ≡ row_of c.args.uses.now.rows c.args.slot =
    c.as_slice-readers.ensures ∙ row_at c.args.uses.now.rows c.args.slot c.index-as_slice-slot.result (omega (arith, c.requires.uses.sized)) (c.index-as_slice-slot.is ∙ ap (λ rows. get_or rows c.args.slot c.index-as_slice-slot.result) same) in
    subst (λ first. All (λ reader. reader < first + length c.args.marks.now) row) (sym c.requires.first) (readers_high c.args.m.now c.args.uses.now.rows c.args.slot (length c.args.marks.now) row c.requires.uses is c.requires.marks)

pub returns : goal.returns
returns c =
    let row = c.as_slice-readers.result.now in
    let same = c.as_slice.ensures in
    let is : row ≡ row_of c.args.uses.now.rows c.args.slot =
    c.as_slice-readers.ensures ∙ row_at c.args.uses.now.rows c.args.slot c.index-as_slice-slot.result (omega (arith, c.requires.uses.sized)) (c.index-as_slice-slot.is ∙ ap (λ rows. get_or rows c.args.slot c.index-as_slice-slot.result) same) in
    row_readers c.args.m.now c.args.uses.now.rows c.args.slot c.args.marks.now c.mark_row.new.marks c.requires.uses
    (subst (λ first. MarksRow first (row_of c.args.uses.now.rows c.args.slot) c.args.marks.now c.mark_row.new.marks) c.requires.first (subst (λ xs. MarksRow c.args.first xs c.args.marks.now c.mark_row.new.marks) is c.mark_row.ensures))
