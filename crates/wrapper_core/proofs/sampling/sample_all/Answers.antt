use Rattle.std.proofs.Common.{◌≡◌, ◌<◌, ◌∙◌, length, get_or, [], sym, ap, subst, arith}
use Rattle.std.specs.Prelude.{Contains}
use Rattle.std.proofs.lemmas.List.{get_or_default, length-map}
use Rattle.std.proofs.lemmas.List.Elements.{Contains-get_or}
use Rattle.std.proofs.lemmas.Option.{slice_get_within, get_or_from_slice_get}
use Rattle.bit_ops.specs.Lists.{words}
use Rattle.code_isa.specs.declared.machine.Reg.{Reg}
use Rattle.code_isa.specs.Uses.{row_of}
use Rattle.wrapper_core.proofs.Blocking.{all_at, words_each, widths_each}
use Rattle.wrapper_core.proofs.Clocking.{sampled_more, sampled_all}
use Rattle.wrapper_core.proofs.sampling.sample_all.Goals as goal

pub sample_row-requires-clause-inside : goal.sample_row-requires-clause-inside
sample_row-requires-clause-inside c = λ k d inside.
    let rows = c.args.rows.now in
    let clock = c.loop-clock.clock in
    let row = c.as_slice-row.result.now in
    let row_is : row ≡ row_of rows clock = c.as_slice-row.ensures ∙ c.index-rows-clock.is ∙ get_or_default rows clock c.index-rows-clock.result [] (omega (arith, c.loop-clock-test.true, c.requires.sized)) in
    let one = (c.requires.rows clock (get_or row k d)).0 (subst (λ xs. Contains xs (get_or row k d)) row_is (Contains-get_or row k d inside)) in
    slice_get_within c.args.regs.now (get_or row k d) one.reg one.at

pub loop-clock-preserved : goal.loop-clock-preserved
loop-clock-preserved c =
    let rows = c.args.rows.now in
    let clock = c.loop-clock.clock in
    let row = c.as_slice-row.result.now in
    let row_is : row ≡ row_of rows clock = c.as_slice-row.ensures ∙ c.index-rows-clock.is ∙ get_or_default rows clock c.index-rows-clock.result [] (omega (arith, c.loop-clock-test.true, c.requires.sized)) in
    record {
      wide = c.sample_row.ensures.wide ∙ c.loop-clock.invariant.wide;
      due = c.sample_row.ensures.due_sized ∙ c.loop-clock.invariant.due;
      sampled = sampled_more c.args.regs.now rows c.args.slots.now c.args.old.now c.args.new.now clock row (words c.args.next.now.items) c.loop-clock.next.items c.sample_row.new.next.items c.loop-clock.due c.sample_row.new.due c.requires.rows row_is
          c.loop-clock.invariant.sampled c.sample_row.ensures;
    }

pub returns-clause-next : goal.returns-clause-next
returns-clause-next c =
    let regs = c.args.regs.now in
    let old = c.args.next.now.items in
    let now = c.loop-clock.next.items in
    let size : length old ≡ length regs = let e : length old ≡ length regs = omega (arith, sym (widths_each old), ap length c.requires.next, length-map regs (λ (x : Reg). x.width)) in e in
    let same : length now ≡ length old = sym (widths_each now) ∙ ap length c.loop-clock.invariant.wide ∙ widths_each old in
    sampled_all regs (words c.args.slots.now) c.args.old.now c.args.new.now c.loop-clock.clock (words old) (words now) c.loop-clock.due c.loop-clock.invariant.sampled (words_each old ∙ size) (words_each now ∙ same ∙ size)
    (λ r reg at.
    let low : reg.clock < length c.args.new.now = all_at (λ (x : Reg). x.clock < length c.args.new.now) regs r reg c.requires.clocks (slice_get_within regs r reg at) (sym (get_or_from_slice_get regs r reg reg at)) in
    omega (arith, low, c.loop-clock-test.false))
