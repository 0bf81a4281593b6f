use Rattle.std.proofs.Common.{◌≡◌, ◌∙◌, refl, ap}
use Rattle.bit_ops.specs.Lists.{words, widths}
use Rattle.code_isa.specs.declared.machine.Machine.{Machine}
use Rattle.code_isa.specs.Faces.{output_widths}
use Rattle.code_isa.specs.Tree.{words_at}
use Rattle.leaf_model.proofs.Leaves.{outputs_wide}
use Rattle.leaf_model.proofs.leaf.LeafChild.publish.Goals as goal

pub returns-clause-ready : goal.returns-clause-ready
returns-clause-ready c =
    let leaf = c.args.self.now in
    let m = leaf.code.value in
    let was = c.requires.struck.known in
    let outs : c.as_slice-2.result.now ≡ m.outs = c.as_slice-2.ensures ∙ ap (λ (x : Machine). x.outs) (c.machine-m.ensures.same ∙ c.as_ref.ensures) in
    let shown : words c.gather.new.buffer.items ≡ words_at (words leaf.slots.items) m.outs =
    c.gather.ensures.words ∙ ap (λ xs. words_at (words xs) c.as_slice-2.result.now) c.as_slice.ensures.value ∙ ap (words_at (words leaf.slots.items)) outs in
    let wide : widths c.gather.new.buffer.items ≡ output_widths m.face =
    c.gather.ensures.widths ∙ ap (λ xs. words_at (widths xs) c.as_slice-2.result.now) c.as_slice.ensures.value ∙ ap (words_at (widths leaf.slots.items)) outs
    ∙ outputs_wide m was.checked (widths leaf.slots.items) was.shape in
    record {
      known = record {
        checked = was.checked;
        alone = was.alone;
        shape = was.shape;
        run = was.run;
        levels_each = was.levels_each;
        shown_wide = wide;
        next_each = was.next_each;
        updates = was.updates;
        numbers = was.numbers;
      };
      unstruck = refl;
      shown = shown;
    }
