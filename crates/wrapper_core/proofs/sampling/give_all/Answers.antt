use Rattle.std.proofs.Common.{◌<◌, ◌≤◌, ◌+◌, ◌∙◌, length, false, sym, ap, subst, arith}
use Rattle.std.specs.Prelude.{slice_index}
use Rattle.std.proofs.lemmas.List.{length-set, length-map}
use Rattle.bit_ops.specs.Lists.{words}
use Rattle.code_isa.specs.Slots.{width_at}
use Rattle.wrapper_core.proofs.Blocking.{left, left_less, member_inside, read_word, read_width, register_width, given_size, words_each, widths_each}
use Rattle.wrapper_core.proofs.Giving.{given_more, given_all}
use Rattle.wrapper_core.proofs.sampling.give_all.Goals as goal

pub put-requires-clause-wide : goal.put-requires-clause-wide
put-requires-clause-wide c =
    let m = c.args.block.now.code.value in
    let next = c.args.next.now in
    let r = c.in-Some.r in
    let inside : r < length next = omega (arith, member_inside c.loop-r.due r c.in-Some.ensures.none.member, c.loop-r.invariant.due, c.requires.due) in
    let regs : r < length m.regs = omega (arith, inside, sym (widths_each next), ap length c.requires.wide, length-map m.regs (λ x. x.width)) in
    ap (λ x. width_at x.value (c.args.first + r)) c.loop-r.invariant.keeps.code ∙ ap (λ n. width_at m (n + r)) c.requires.first ∙ register_width m r regs
    ∙ ap (λ ws. slice_index ws r) (sym c.requires.wide) ∙ read_width next r c.index-next-r.result inside c.index-next-r.is

pub loop-r-smaller : goal.loop-r-smaller
loop-r-smaller c =
    let smaller : left c.take_least.new.self < left c.loop-r.due =
    subst (λ ms. left ms < left c.loop-r.due) (sym c.in-Some.ensures.taken) (left_less c.loop-r.due c.in-Some.r c.in-Some.ensures.none.member) in
    smaller

pub loop-r-preserved : goal.loop-r-preserved
loop-r-preserved c =
    let next = c.args.next.now in
    let old = c.args.block.now.given.items in
    let r = c.in-Some.r in
    let inside : r < length next = omega (arith, member_inside c.loop-r.due r c.in-Some.ensures.none.member, c.loop-r.invariant.due, c.requires.due) in
    let room : c.args.first + length (words next) ≤ length (words old) = omega (arith, c.requires.inside, words_each next, words_each old, given_size c.args.block.now c.requires.block) in
    record {
      block = c.put.ensures.block;
      keeps = record { code = c.put.ensures.keeps.code ∙ c.loop-r.invariant.keeps.code; slots = c.put.ensures.keeps.slots ∙ c.loop-r.invariant.keeps.slots };
      due = ap length c.in-Some.ensures.taken ∙ length-set c.loop-r.due r false ∙ c.loop-r.invariant.due;
      given = given_more (words old) (words c.loop-r.block.given.items) (words c.put.new.self.given.items) c.args.first (words next) c.loop-r.due c.take_least.new.self r c.index-next-r.result.word
          c.loop-r.invariant.given (omega (arith, inside, words_each next)) room c.in-Some.ensures.taken (sym (read_word next r c.index-next-r.result inside c.index-next-r.is)) c.put.ensures.given;
    }

pub returns-clause-given : goal.returns-clause-given
returns-clause-given c =
    let next = c.args.next.now in
    let old = c.args.block.now.given.items in
    let room : c.args.first + length (words next) ≤ length (words old) = omega (arith, c.requires.inside, words_each next, words_each old, given_size c.args.block.now c.requires.block) in
    given_all (words old) (words c.loop-r.block.given.items) c.args.first (words next) c.loop-r.due c.loop-r.invariant.given room c.in_default.ensures.none
