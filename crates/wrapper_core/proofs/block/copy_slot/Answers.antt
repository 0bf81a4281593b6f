use Rattle.std.proofs.Common.{◌<◌, ◌∙◌, length, sym, subst, arith}
use Rattle.bit_ops.specs.Lists.{words}
use Rattle.code_isa.specs.Slots.{slot_widths}
use Rattle.code_isa.specs.Activity.{HaveValuesBut}
use Rattle.wrapper_core.proofs.Blocking.{read_word, word_same, word_set, widths_kept, slots_room}
use Rattle.wrapper_core.proofs.block.copy_slot.Goals as goal

pub returns-then-index-value-clause-words : goal.returns-then-index-value-clause-words
returns-then-index-value-clause-words c =
    let slots = c.args.slots.now.items in
    let inside : c.args.s < length slots = omega (arith, slots_room c.args.m.now slots c.requires.shape, c.requires.slot) in
    word_same slots c.args.s c.args.value.word (read_word slots c.args.s c.index.result.now inside c.index.ensures ∙ c.if-index-value.true)

pub returns-clause-shape : goal.returns-clause-shape
returns-clause-shape c =
    let slots = c.args.slots.now.items in
    let inside : c.args.s < length slots = omega (arith, slots_room c.args.m.now slots c.requires.shape, c.requires.slot) in
    widths_kept slots c.args.s c.args.value (slot_widths c.args.m.now) c.requires.shape inside c.requires.wide

pub returns-clause-words : goal.returns-clause-words
returns-clause-words c = word_set c.args.slots.now.items c.args.s c.args.value

pub returns-clause-settled : goal.returns-clause-settled
returns-clause-settled c =
    let slots = c.args.slots.now.items in
    subst (HaveValuesBut c.args.m.now c.mark.new.marks) (sym (word_set slots c.args.s c.args.value))
    (c.set_and_marked.ensures c.args.m.now c.args.s c.args.value.word (words slots) c.args.marks.now c.mark.new.marks c.requires.slot c.mark.ensures c.requires.settled)
