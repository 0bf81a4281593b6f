use Rattle.std.proofs.Common.{◌≡◌, ◌∙◌, length, take, drop, sym, arith}
use Rattle.std.proofs.lemmas.List.{length-set, length-take-le, length-drop}
use Rattle.bit_ops.specs.Lists.{words}
use Rattle.leaf_model.specs.Known.{words_each}
use Rattle.leaf_model.proofs.Lists.{whole}
use Rattle.leaf_model.proofs.Sampled.{own_width, words_more, widths_more, sampled_size}
use Rattle.code_isa.specs.Traces.{sampled}
use Rattle.leaf_model.proofs.sampling.sample.Goals as goal

pub taken-requires-clause-wide : goal.taken-requires-clause-wide
taken-requires-clause-wide c =
    let slots = c.args.slots.now in
    let regs = c.args.regs.now in
    let r = c.loop-r.r in
    rw (← c.index-regs-r.is) at (c.requires.wide r c.index-regs-r.result c.loop-r-test.true)
    ∙ sym (own_width slots regs c.args.first r c.index-regs-r.result c.index-slots-first.result c.requires.inside c.loop-r-test.true c.index-regs-r.is c.index-slots-first.is c.requires.own)

pub loop-r-preserved : goal.loop-r-preserved
loop-r-preserved c =
    let slots = c.args.slots.now in
    let regs = c.args.regs.now in
    let r = c.loop-r.r in
    let reg = c.index-regs-r.result in
    let own = c.index-slots-first.result in
    let next = c.loop-r.next.items in
    let v = c.taken.result in
    record {
      sized = length-set next r v ∙ c.loop-r.invariant.sized;
      words = words_more slots regs c.args.first r reg own c.requires.inside c.loop-r-test.true c.index-regs-r.is c.index-slots-first.is c.args.old.now c.args.new.now next v c.loop-r.invariant.sized c.taken.ensures.word c.loop-r.invariant.words;
      widths = widths_more slots regs c.args.first r reg own c.requires.inside c.loop-r-test.true c.index-regs-r.is c.index-slots-first.is next v c.loop-r.invariant.sized
          (c.taken.ensures.width ∙ own_width slots regs c.args.first r reg own c.requires.inside c.loop-r-test.true c.index-regs-r.is c.index-slots-first.is c.requires.own) c.loop-r.invariant.widths;
    }

pub returns-clause-words : goal.returns-clause-words
returns-clause-words c =
    let slots = c.args.slots.now in
    let regs = c.args.regs.now in
    let own = take (length regs) (drop c.args.first (words slots)) in
    let size : length own ≡ length regs = length-take-le (length regs) (drop c.args.first (words slots)) (omega (arith, length-drop c.args.first (words slots), words_each slots, c.requires.inside)) in
    let r : c.loop-r.r ≡ length regs = omega (arith, c.loop-r-test.false, c.loop-r.auto.r-end) in
    whole c.loop-r.r (words c.loop-r.next.items) (sampled c.args.old.now c.args.new.now (words slots) regs own)
    (words_each c.loop-r.next.items ∙ c.loop-r.invariant.sized ∙ sym r)
    (sampled_size c.args.old.now c.args.new.now (words slots) regs own size ∙ sym r) c.loop-r.invariant.words
