use Rattle.std.proofs.Common.{◌<◌, ◌∙◌, length, set, false, sym, ap, subst, arith}
use Rattle.bit_ops.specs.Lists.{words}
use Rattle.code_isa.specs.Slots.{first_instruction}
use Rattle.wrapper_core.proofs.Blocking.{left, left_less, member_inside, copied_more, read_word, slots_room, words_each, widths_each}
use Rattle.std.proofs.lemmas.List.{length-set}
use Rattle.wrapper_core.proofs.block.copy_all.Goals as goal

pub loop-s-smaller : goal.loop-s-smaller
loop-s-smaller c =
    let smaller : left c.take_least.new.self < left c.loop-s.waiting =
    subst (λ ms. left ms < left c.loop-s.waiting) (sym c.in-Some.ensures.taken) (left_less c.loop-s.waiting c.in-Some.s c.in-Some.ensures.none.member) in
    smaller

pub loop-s-preserved : goal.loop-s-preserved
loop-s-preserved c =
    let m = c.args.m.now in
    let given = c.args.given.now in
    let old = c.loop-s.slots.items in
    let s = c.in-Some.s in
    let low : s < first_instruction m = subst (λ n. s < n) c.loop-s.invariant.waiting (member_inside c.loop-s.waiting s c.in-Some.ensures.none.member) in
    let inside : s < length (words old) = omega (arith, words_each old, slots_room m old c.loop-s.invariant.shape) in
    let there : s < length given = omega (arith, sym (widths_each given), ap length c.requires.given) in
    record {
      shape = c.copy_slot.ensures.shape;
      waiting = ap length c.in-Some.ensures.taken ∙ length-set c.loop-s.waiting s false ∙ c.loop-s.invariant.waiting;
      marks = c.copy_slot.ensures.marks;
      copied = copied_more (first_instruction m) s c.loop-s.waiting c.take_least.new.self (words old) (words given) (words c.copy_slot.new.slots.items) c.loop-s.invariant.copied inside c.in-Some.ensures.taken
          (c.copy_slot.ensures.words ∙ ap (set (words old) s) (sym (read_word given s c.index-given-s.result there c.index-given-s.is)));
      settled = c.copy_slot.ensures.settled;
    }
