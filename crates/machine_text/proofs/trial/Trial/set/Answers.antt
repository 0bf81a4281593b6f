use Rattle.std.proofs.Common.{◌≡◌, ◌<◌, ◌∙◌, length, ap, sym, subst, arith}
use Rattle.bit_ops.specs.Lists.{words}
use Rattle.code_isa.specs.Slots.{first_instruction}
use Rattle.code_isa.specs.Activity.{HaveValuesBut}
use Rattle.machine_text.proofs.Setting.{slots_room, words_set, widths_kept}
use Rattle.machine_text.proofs.trial.Trial.set.Goals as goal

pub returns : goal.returns
returns c =
    let m = c.args.self.now.m in
    let slots = c.args.self.now.slots.items in
    let first : c.first_instruction.result ≡ first_instruction m = c.first_instruction.ensures.count ∙ ap first_instruction c.machine.ensures.same in
    let low : c.args.slot < first_instruction m = omega (arith, first, c.if-slot-first_instruction.false) in
    let inside : c.args.slot < length slots = omega (arith, low, slots_room m slots c.requires.shape) in
    record {
      uses = c.requires.uses;
      shape = widths_kept slots c.args.slot c.index.result.now c.truncated-value.result inside c.index.ensures c.truncated-value.ensures.width ∙ c.requires.shape;
      sized = c.mark.ensures.sized ∙ c.requires.sized;
      settled = subst (HaveValuesBut m c.mark.new.marks) (sym (words_set slots c.args.slot c.truncated-value.result))
          (c.set_and_marked.ensures m c.args.slot c.truncated-value.result.word (words slots) c.args.self.now.marks c.mark.new.marks low c.mark.ensures c.requires.settled);
    }
