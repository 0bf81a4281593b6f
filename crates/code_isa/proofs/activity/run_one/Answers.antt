use Rattle.std.proofs.Common.{◌≡◌, ◌≢◌, ◌∙◌, ◌+◌, ◌<◌, ap, subst, sym, length}
use Rattle.std.specs.Prelude.{slice_get, slice_index, Some}
use Rattle.bit_ops.specs.Lists.{words, widths}
use Rattle.code_isa.specs.Slots.{slot_widths, first_instruction}
use Rattle.code_isa.specs.Values.{instr_value}
use Rattle.code_isa.specs.Activity.{MarksReaders}
use Rattle.code_isa.proofs.Running.{item_at, shape_kept}
use Rattle.code_isa.proofs.Doing.{one_same, read_here, set_here}
use Rattle.code_isa.proofs.activity.run_one.Goals as goal

pub returns-then-result-index-clause-done : goal.returns-then-result-index-clause-done
returns-then-result-index-clause-done c =
    let m = c.args.m.now in
    let slots = c.args.slots.now.items in
    let at : slice_get m.code c.args.k ≡ Some c.index-as_slice-k.result =
    item_at m.code c.as_slice.result.now c.args.k c.index-as_slice-k.result c.as_slice.ensures (subst (λ xs. c.args.k < length xs) (sym c.as_slice.ensures) c.requires.inside) c.index-as_slice-k.is in
    let worth : c.value-result.result.word ≡ instr_value (slot_widths m) (words slots) c.index-as_slice-k.result =
    c.value-result.ensures.word ∙ ap (λ xs. instr_value (widths xs) (words xs) c.index-as_slice-k.result) c.as_slice-2.ensures.value ∙ ap (λ ws. instr_value ws (words slots) c.index-as_slice-k.result) c.requires.shape in
    let held : c.index.result.now.word ≡ slice_index (words slots) (first_instruction m + c.args.k) =
    read_here m slots c.args.first c.args.k c.index.result.now c.requires.first c.requires.shape c.requires.inside c.index.ensures in
    one_same m c.args.k c.value-result.result.word c.index-as_slice-k.result (words slots) c.args.marks.now at worth (c.if-result-index.true ∙ held)

pub returns-clause-shape : goal.returns-clause-shape
returns-clause-shape c =
    let m = c.args.m.now in
    let at : slice_get m.code c.args.k ≡ Some c.index-as_slice-k.result =
    item_at m.code c.as_slice.result.now c.args.k c.index-as_slice-k.result c.as_slice.ensures (subst (λ xs. c.args.k < length xs) (sym c.as_slice.ensures) c.requires.inside) c.index-as_slice-k.is in
    shape_kept m c.args.slots.now.items (c.args.first + c.args.k) c.args.k c.index-as_slice-k.result c.value-result.result c.requires.shape (ap (λ n. n + c.args.k) c.requires.first) at c.value-result.ensures.width

pub returns-clause-done : goal.returns-clause-done
returns-clause-done c =
    let m = c.args.m.now in
    let slots = c.args.slots.now.items in
    let at : slice_get m.code c.args.k ≡ Some c.index-as_slice-k.result =
    item_at m.code c.as_slice.result.now c.args.k c.index-as_slice-k.result c.as_slice.ensures (subst (λ xs. c.args.k < length xs) (sym c.as_slice.ensures) c.requires.inside) c.index-as_slice-k.is in
    let worth : c.value-result.result.word ≡ instr_value (slot_widths m) (words slots) c.index-as_slice-k.result =
    c.value-result.ensures.word ∙ ap (λ xs. instr_value (widths xs) (words xs) c.index-as_slice-k.result) c.as_slice-2.ensures.value ∙ ap (λ ws. instr_value ws (words slots) c.index-as_slice-k.result) c.requires.shape in
    let held : c.index.result.now.word ≡ slice_index (words slots) (first_instruction m + c.args.k) =
    read_here m slots c.args.first c.args.k c.index.result.now c.requires.first c.requires.shape c.requires.inside c.index.ensures in
    let other : c.value-result.result.word ≢ slice_index (words slots) (first_instruction m + c.args.k) = λ e. c.if-result-index.false (e ∙ sym held) in
    set_here m slots c.args.first c.args.k c.index-as_slice-k.result c.value-result.result c.args.marks.now c.mark_readers.new.marks c.requires.first c.requires.shape c.requires.checked.slot_order at worth other
    (subst (λ n. MarksReaders m (n + c.args.k) c.args.marks.now c.mark_readers.new.marks) c.requires.first c.mark_readers.ensures)
