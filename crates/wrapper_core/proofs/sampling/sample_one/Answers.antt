use Rattle.std.proofs.Common.{◌≡◌, ◌<◌, ◌∙◌, length, refl, sym}
use Rattle.std.specs.Prelude.{slice_get, slice_index, Some}
use Rattle.bit_ops.specs.Lists.{widths}
use Rattle.code_isa.specs.declared.machine.Reg.{Reg}
use Rattle.wrapper_core.proofs.Blocking.{item_at, all_at, read_word, read_width}
use Rattle.wrapper_core.proofs.Clocking.{one_kept, one_taken}
use Rattle.wrapper_core.proofs.sampling.sample_one.Goals as goal

pub returns-then-has_edge : goal.returns-then-has_edge
returns-then-has_edge c =
    let regs = c.args.regs.now in
    let slots = c.args.slots.now in
    let r = c.args.r in
    let reg = c.index-regs-r.result in
    let v = c.index-slots-reg.result in
    let at : slice_get regs r ≡ Some reg = item_at regs regs r reg refl c.requires.inside c.index-regs-r.is in
    let there : reg.next < length slots = all_at (λ (x : Reg). x.next < length slots) regs r reg c.requires.nexts c.requires.inside c.index-regs-r.is in
    let wide : slice_index (widths slots) reg.next ≡ reg.width = all_at (λ (x : Reg). slice_index (widths slots) x.next ≡ x.width) regs r reg c.requires.wide c.requires.inside c.index-regs-r.is in
    one_taken regs slots c.args.from c.args.to c.args.next.now.items c.args.due.now r reg v c.insert.new.self at (sym c.has_edge.ensures ∙ c.if-has_edge.true) c.requires.next c.requires.due
    (sym (read_word slots reg.next v there c.index-slots-reg.is)) (sym (read_width slots reg.next v there c.index-slots-reg.is) ∙ wide) c.insert.ensures

pub returns-else-has_edge : goal.returns-else-has_edge
returns-else-has_edge c =
    let regs = c.args.regs.now in
    let r = c.args.r in
    let reg = c.index-regs-r.result in
    one_kept regs c.args.slots.now c.args.from c.args.to c.args.next.now.items c.args.due.now r reg (item_at regs regs r reg refl c.requires.inside c.index-regs-r.is) (sym c.has_edge.ensures ∙ c.if-has_edge.false)
