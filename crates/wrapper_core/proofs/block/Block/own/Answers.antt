use Rattle.std.proofs.Common.{◌≡◌, ◌∙◌, length, sym, ap, subst, arith}
use Rattle.bit_ops.specs.Lists.{words}
use Rattle.code_isa.specs.Slots.{slot_widths, first_instruction}
use Rattle.code_isa.specs.Values.{IsRun, KeepsGiven}
use Rattle.code_isa.specs.Activity.{HaveValuesBut}
use Rattle.wrapper_core.specs.code.Blocks.{IsCopied}
use Rattle.wrapper_core.proofs.Blocking.{copied_kept, all_copied, given_size, slots_room, words_each}
use Rattle.wrapper_core.proofs.block.Block.own.Goals as goal

pub copy_all-requires-clause-settled : goal.copy_all-requires-clause-settled
copy_all-requires-clause-settled c = subst (λ m. HaveValuesBut m c.args.self.now.marks (words c.args.self.now.slots.items)) (sym c.as_ref-code.ensures) c.requires.block.settled

pub returns-clause-block : goal.returns-clause-block
returns-clause-block c =
    let m = c.args.self.now.code.value in
    let e : c.as_ref-code.result.now ≡ m = c.as_ref-code.ensures in
    let mid = words c.copy_all.new.slots.items in
    let new = words c.run_marked.new.slots.items in
    let given = words c.args.self.now.given.items in
    let keeps : KeepsGiven m mid new = subst (λ x. KeepsGiven x mid new) e c.run_marked.ensures.given in
    let run : IsRun m new = subst (λ x. IsRun x new) e c.run_marked.ensures.run in
    let copied : IsCopied (first_instruction m) c.copy_all.new.waiting mid given =
    subst (λ x. IsCopied (first_instruction x) c.copy_all.new.waiting mid given) e (subst (λ g. IsCopied (first_instruction c.as_ref-code.result.now) c.copy_all.new.waiting mid (words g)) c.as_slice.ensures.value c.copy_all.ensures.copied) in
    record {
      uses = c.requires.block.uses;
      given_wide = c.requires.block.given_wide;
      shape = c.run_marked.ensures.shape ∙ ap slot_widths e;
      waiting_sized = c.copy_all.ensures.waiting ∙ ap first_instruction e;
      marks_sized = c.run_marked.ensures.marks ∙ c.copy_all.ensures.marks ∙ ap (λ x. length x.code) e;
      copied = copied_kept (first_instruction m) c.copy_all.new.waiting mid new given copied keeps;
      settled = λ k clear. run k;
    }

pub returns-clause-filled : goal.returns-clause-filled
returns-clause-filled c =
    let m = c.args.self.now.code.value in
    let e : c.as_ref-code.result.now ≡ m = c.as_ref-code.ensures in
    let mid = words c.copy_all.new.slots.items in
    let given = words c.args.self.now.given.items in
    let keeps : KeepsGiven m mid (words c.run_marked.new.slots.items) = subst (λ x. KeepsGiven x mid (words c.run_marked.new.slots.items)) e c.run_marked.ensures.given in
    let copied : IsCopied (first_instruction m) c.copy_all.new.waiting mid given =
    subst (λ x. IsCopied (first_instruction x) c.copy_all.new.waiting mid given) e (subst (λ g. IsCopied (first_instruction c.as_ref-code.result.now) c.copy_all.new.waiting mid (words g)) c.as_slice.ensures.value c.copy_all.ensures.copied) in
    let room = slots_room m c.copy_all.new.slots.items (c.copy_all.ensures.shape ∙ ap slot_widths e) in
    keeps ∙ all_copied (first_instruction m) c.copy_all.new.waiting mid given copied c.copy_all.ensures.none (words_each c.args.self.now.given.items ∙ given_size c.args.self.now c.requires.block) (omega (arith, words_each c.copy_all.new.slots.items, room))
