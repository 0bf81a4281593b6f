use Rattle.std.proofs.Common.{◌≡◌, ◌∙◌, length, refl, sym, ap, subst, arith}
use Rattle.bit_ops.specs.Lists.{words, widths}
use Rattle.code_isa.specs.declared.machine.Machine.{Machine}
use Rattle.code_isa.specs.Faces.{output_widths}
use Rattle.code_isa.specs.Slots.{slot_widths, first_register}
use Rattle.code_isa.specs.Values.{IsRun}
use Rattle.code_isa.specs.Tree.{words_at}
use Rattle.leaf_model.specs.Known.{words_each, widths_each}
use Rattle.leaf_model.proofs.Leaves.{outputs_wide, words_sized, given_moved, inputs_held, inputs_keep}
use Rattle.leaf_model.proofs.leaf.LeafChild.update.Goals as goal

pub returns-clause-ready : goal.returns-clause-ready
returns-clause-ready g c =
    let leaf = c.args.self.now in
    let m = leaf.code.value in
    let was = c.requires.ready.known in
    let slots = c.give.new.slots.items in
    let same : c.machine-m.result.now ≡ m = c.machine-m.ensures.same ∙ c.as_ref.ensures in
    let outs : c.as_slice-2.result.now ≡ m.outs = c.as_slice-2.ensures ∙ ap (λ (x : Machine). x.outs) same in
    let shape : widths slots ≡ slot_widths m = c.give.ensures.shape ∙ ap slot_widths same in
    let shown : words c.gather.new.buffer.items ≡ words_at (words slots) m.outs =
    c.gather.ensures.words ∙ ap (λ xs. words_at (words xs) c.as_slice-2.result.now) c.as_slice.ensures.value ∙ ap (words_at (words slots)) outs in
    let wide : widths c.gather.new.buffer.items ≡ output_widths m.face =
    c.gather.ensures.widths ∙ ap (λ xs. words_at (widths xs) c.as_slice-2.result.now) c.as_slice.ensures.value ∙ ap (words_at (widths slots)) outs
    ∙ outputs_wide m was.checked (widths slots) shape in
    record {
      known = record {
        checked = was.checked;
        alone = was.alone;
        shape = shape;
        run = subst (λ (x : Machine). IsRun x (words slots)) same c.give.ensures.run;
        levels_each = was.levels_each;
        shown_wide = wide;
        next_each = was.next_each;
        updates = omega (arith, was.updates);
        numbers = omega (arith, c.requires.room);
      };
      unstruck = c.requires.ready.unstruck;
      shown = shown;
    }

pub returns-clause-updates : goal.returns-clause-updates
returns-clause-updates g c =
    let leaf = c.args.self.now in
    let m = leaf.code.value in
    let was = c.requires.ready.known in
    let inputs = c.args.inputs.now in
    let same : c.machine-m.result.now ≡ m = c.machine-m.ensures.same ∙ c.as_ref.ensures in
    let old = words leaf.slots.items in
    let new = words c.give.new.slots.items in
    let sized = words_sized m leaf.slots.items was.shape in
    let given = given_moved m c.machine-m.result.now old new (words inputs) (words inputs) 0 same refl c.give.ensures.given in
    let size : length (words inputs) ≡ first_register m = words_each inputs ∙ sym (widths_each inputs) ∙ ap length c.requires.inputs in
    record {
      tree = refl;
      levels = refl;
      held = inputs_held m was.alone old new (words inputs) 0 sized given refl size;
      registers = (sym (inputs_keep m was.alone old new (words inputs) 0 sized given refl size), tt);
      number = refl;
      room = omega (arith, c.requires.room);
    }
