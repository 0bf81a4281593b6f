use Rattle.std.proofs.Common.{◌≡◌, ◌∙◌, length, sym, ap, subst, arith}
use Rattle.bit_ops.specs.Lists.{words}
use Rattle.code_isa.specs.Slots.{slot_widths, first_instruction}
use Rattle.code_isa.specs.Uses.{AreUsesOf}
use Rattle.wrapper_core.specs.code.Blocks.{HasAll}
use Rattle.wrapper_core.proofs.Blocking.{widths_each, none_copied, none_settled}
use Rattle.wrapper_core.proofs.block.Block.new.Goals as goal

pub returns-clause-block : goal.returns-clause-block
returns-clause-block c =
    let m = c.args.code.value in
    let given = c.args.given.items in
    let slots = c.in_ok-slots.slots.items in
    let size : length given ≡ first_instruction m = sym (widths_each given) ∙ ap length c.requires in
    let sized : c.len.result ≡ first_instruction m = omega (arith, c.len.ensures, c.args.given.ok.0, size) in
    let all_waiting : HasAll c.in_ok-waiting.waiting (first_instruction m) = subst (HasAll c.in_ok-waiting.waiting) sized c.in_ok-waiting.ensures in
    let code : c.as_slice-2.result.now ≡ m.code = c.as_slice-2.ensures ∙ ap (λ x. x.code) c.machine.ensures.same ∙ ap (λ x. x.code) c.as_ref-3.ensures in
    let all_marked : HasAll c.in_ok-marks.marks (length m.code) = subst (λ xs. HasAll c.in_ok-marks.marks (length xs)) code c.in_ok-marks.ensures in
    record {
      uses = subst (λ x. AreUsesOf x c.in_ok-uses.uses.rows) c.as_ref.ensures c.in_ok-uses.ensures;
      given_wide = c.requires;
      shape = c.in_ok-slots.ensures.wide ∙ ap slot_widths c.as_ref-2.ensures;
      waiting_sized = all_waiting.sized;
      marks_sized = all_marked.sized;
      copied = none_copied (first_instruction m) c.in_ok-waiting.waiting (words slots) (words given) all_waiting;
      settled = none_settled m c.in_ok-marks.marks (words slots) all_marked;
    }
