use Rattle.std.proofs.Common.{◌≡◌, ◌∙◌, length, map, replicate, false, refl, sym, ap, subst, arith}
use Rattle.std.proofs.lemmas.List.{length-map, length-replicate}
use Rattle.bit_ops.specs.Lists.{words, widths}
use Rattle.code_isa.specs.declared.machine.Machine.{Machine}
use Rattle.code_isa.specs.declared.machine.Reg.{Reg}
use Rattle.code_isa.specs.Checks.{IsChecked}
use Rattle.code_isa.specs.Faces.{input_widths, output_widths, input_count, clock_count}
use Rattle.code_isa.specs.Slots.{slot_widths, first_register}
use Rattle.code_isa.specs.Values.{IsRun}
use Rattle.code_isa.specs.Tree.{words_at}
use Rattle.leaf_model.specs.Known.{words_each, widths_each, alone_settled}
use Rattle.leaf_model.proofs.Leaves.{outputs_wide, words_sized, given_moved, inputs_held, registers_given, registers_keep}
use Rattle.leaf_model.proofs.leaf.Leaf.new.Goals as goal

pub returns-clause-ready : goal.returns-clause-ready
returns-clause-ready c =
    let m = c.args.code.value in
    let slots = c.give-2.new.slots.items in
    let same : c.machine-m.result.now ≡ m = c.machine-m.ensures.same ∙ c.as_ref.ensures in
    let is_checked : IsChecked m = subst IsChecked c.as_ref.ensures c.machine-m.ensures.checked in
    let outs : c.as_slice-5.result.now ≡ m.outs = c.as_slice-5.ensures ∙ ap (λ (x : Machine). x.outs) same in
    let shape : widths slots ≡ slot_widths m = c.give-2.ensures.shape ∙ ap slot_widths same in
    let shown : words c.gather.new.buffer.items ≡ words_at (words slots) m.outs =
    c.gather.ensures.words ∙ ap (λ xs. words_at (words xs) c.as_slice-5.result.now) c.as_slice-4.ensures.value ∙ ap (words_at (words slots)) outs in
    let wide : widths c.gather.new.buffer.items ≡ output_widths m.face =
    c.gather.ensures.widths ∙ ap (λ xs. words_at (widths xs) c.as_slice-5.result.now) c.as_slice-4.ensures.value ∙ ap (words_at (widths slots)) outs
    ∙ outputs_wide m is_checked (widths slots) shape in
    let levels : c.in_ok-levels.levels.items ≡ replicate c.clock_count.result false = c.in_ok-levels.ensures.items_if_clones_equal (λ y e. e) in
    let regs : c.as_slice.result.now ≡ m.regs = c.as_slice.ensures ∙ ap (λ (x : Machine). x.regs) same in
    record {
      known = record {
        checked = is_checked;
        alone = c.requires;
        shape = shape;
        run = subst (λ (x : Machine). IsRun x (words slots)) same c.give-2.ensures.run;
        levels_each = ap length levels ∙ length-replicate c.clock_count.result false ∙ c.clock_count.ensures ∙ ap (λ (x : Machine). clock_count x.face) same;
        shown_wide = wide;
        next_each = sym (widths_each c.in_ok-next.next.items) ∙ ap length c.in_ok-next.ensures.widths ∙ length-map c.as_slice.result.now (λ (x : Reg). x.width) ∙ ap length regs;
        updates = omega arith;
        numbers = omega arith;
      };
      unstruck = refl;
      shown = shown;
    }

pub returns-clause-begins : goal.returns-clause-begins
returns-clause-begins c =
    let m = c.args.code.value in
    let alone = c.requires in
    let same : c.machine-m.result.now ≡ m = c.machine-m.ensures.same ∙ c.as_ref.ensures in
    let regs : c.as_slice.result.now ≡ m.regs = c.as_slice.ensures ∙ ap (λ (x : Machine). x.regs) same in
    let inputs = c.in_ok-inputs.inputs.items in
    let next = c.in_ok-next.next.items in
    let start = c.in_ok-slots.slots.items in
    let mid = c.give.new.slots.items in
    let last = c.give-2.new.slots.items in
    let inputs_wide : widths inputs ≡ input_widths m.face = c.in_ok-inputs.ensures.widths ∙ ap (λ (x : Machine). input_widths x.face) same in
    let inputs_size : length (words inputs) ≡ first_register m = words_each inputs ∙ sym (widths_each inputs) ∙ ap length inputs_wide in
    let next_words : words next ≡ map (λ (x : Reg). x.init) m.regs = c.in_ok-next.ensures.words ∙ ap (map (λ (x : Reg). x.init)) regs in
    let next_size : length (words next) ≡ length m.regs = ap length next_words ∙ length-map m.regs (λ (x : Reg). x.init) in
    let mid_shape : widths mid ≡ slot_widths m = c.give.ensures.shape ∙ ap slot_widths same in
    let last_shape : widths last ≡ slot_widths m = c.give-2.ensures.shape ∙ ap slot_widths same in
    let start_sized = words_sized m start (c.in_ok-slots.ensures ∙ ap slot_widths same) in
    let mid_sized = words_sized m mid mid_shape in
    let at : c.len-2.result ≡ first_register m = omega (arith, c.len-2.ensures, c.in_ok-inputs.inputs.ok.0, inputs_size, words_each inputs) in
    let first = given_moved m c.machine-m.result.now (words start) (words mid) (words inputs) (words c.as_slice-2.result.now) 0 same (ap words c.as_slice-2.ensures.value) c.give.ensures.given in
    let second = given_moved m c.machine-m.result.now (words mid) (words last) (words next) (words c.as_slice-3.result.now) c.len-2.result same (ap words c.as_slice-3.ensures.value) c.give-2.ensures.given in
    record {
      start = record {
        levels = c.in_ok-levels.ensures.items_if_clones_equal (λ y e. e) ∙ ap (λ n. replicate n false) (c.clock_count.ensures ∙ ap (λ (x : Machine). clock_count x.face) same);
        inputs = registers_keep m alone (words mid) (words last) (words next) c.len-2.result mid_sized second at
            ∙ inputs_held m alone (words start) (words mid) (words inputs) 0 start_sized first refl inputs_size
            ∙ c.in_ok-inputs.ensures.words ∙ ap (λ (x : Machine). replicate (input_count x.face) 0) same;
        registers = (registers_given m alone (words mid) (words last) (words next) c.len-2.result mid_sized second at next_size ∙ next_words, tt);
        settled = alone_settled m (words last) alone (words_sized m last last_shape) (subst (λ (x : Machine). IsRun x (words last)) same c.give-2.ensures.run);
      };
      number = refl;
    }
