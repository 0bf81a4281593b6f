use Rattle.std.proofs.Common.{◌≡◌, ◌∙◌, length, take, drop, refl, sym, ap, subst, arith}
use Rattle.std.specs.Vec.{with_items}
use Rattle.std.proofs.lemmas.List.{with_items_is, length-map}
use Rattle.bit_ops.specs.Lists.{words}
use Rattle.code_isa.specs.declared.machine.Machine.{Machine}
use Rattle.code_isa.specs.declared.machine.Reg.{Reg}
use Rattle.code_isa.specs.Faces.{input_count}
use Rattle.code_isa.specs.Slots.{first_register}
use Rattle.code_isa.specs.Traces.{AllTakeEdges, sampled}
use Rattle.code_isa.specs.Tree.{no_tree, no_state}
use Rattle.leaf_model.specs.Leaf.{registers_in}
use Rattle.leaf_model.specs.Known.{words_each, widths_each}
use Rattle.leaf_model.proofs.Leaves.{inputs_count, words_sized, given_moved, registers_given, registers_keep}
use Rattle.leaf_model.proofs.leaf.LeafChild.strike.Goals as goal

pub returns-clause-strikes : goal.returns-clause-strikes
returns-clause-strikes g c =
    let leaf = c.args.self.now in
    let m = leaf.code.value in
    let was = c.requires.ready.known in
    let clocks = c.args.clocks.now in
    let same : c.machine-m.result.now ≡ m = c.machine-m.ensures.same ∙ c.as_ref.ensures in
    let first = c.input_count-first.result in
    let at : first ≡ first_register m = c.input_count-first.ensures ∙ ap (λ (x : Machine). input_count x.face) same ∙ inputs_count m in
    let regs : c.as_slice.result.now ≡ m.regs = c.as_slice.ensures ∙ ap (λ (x : Machine). x.regs) same in
    let old = words leaf.slots.items in
    let new = words c.give.new.slots.items in
    let next = words c.sample.new.next.items in
    let taken : next ≡ sampled leaf.levels.items clocks old m.regs (registers_in m old) =
    c.sample.ensures.words
    ∙ ap (λ xs. sampled xs clocks (words c.as_slice-2.result.now) c.as_slice.result.now (take (length c.as_slice.result.now) (drop first (words c.as_slice-2.result.now)))) c.as_slice-3.ensures.value
    ∙ ap (λ xs. sampled leaf.levels.items clocks (words xs) c.as_slice.result.now (take (length c.as_slice.result.now) (drop first (words xs)))) c.as_slice-2.ensures.value
    ∙ ap (λ xs. sampled leaf.levels.items clocks old xs (take (length xs) (drop first old))) regs
    ∙ ap (λ n. sampled leaf.levels.items clocks old m.regs (take (length m.regs) (drop n old))) at in
    let wide = c.sample.ensures.widths in
    let size : length next ≡ length m.regs =
    words_each c.sample.new.next.items ∙ sym (widths_each c.sample.new.next.items) ∙ ap length wide ∙ length-map c.as_slice.result.now (λ (x : Reg). x.width) ∙ ap length regs in
    let sized = words_sized m leaf.slots.items was.shape in
    let given = given_moved m c.machine-m.result.now old new next (words c.as_slice-4.result.now) first same (ap words c.as_slice-4.ensures.value) c.give.ensures.given in
    let after : c.copy_from_slice.new.self ≡ clocks = c.copy_from_slice.ensures.after in
    let levels : (with_items leaf.levels c.copy_from_slice.new.self).items ≡ clocks =
    with_items_is leaf.levels c.copy_from_slice.new.self (let e : length c.copy_from_slice.new.self ≡ leaf.levels.len = omega (arith, ap length after, c.requires.levels, was.levels_each, leaf.levels.ok.0) in e) ∙ after in
    record {
      tree = refl;
      levels = levels;
      held = registers_keep m was.alone old new next first sized given at;
      registers = (registers_given m was.alone old new next first sized given at size ∙ taken, subst (λ kids. AllTakeEdges no_tree kids leaf.levels.items clocks no_state no_state) (sym was.alone) tt);
      shown = refl;
      number = refl;
      room = omega (arith, c.requires.room);
    }
