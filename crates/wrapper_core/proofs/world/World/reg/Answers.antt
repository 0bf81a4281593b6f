use Rattle.std.proofs.Common.{◌≡◌, ◌<◌, ◌+◌, ◌∙◌, length, map, sym, ap, arith}
use Rattle.std.specs.Prelude.{slice_index, Some}
use Rattle.std.proofs.lemmas.List.{length-map}
use Rattle.std.proofs.lemmas.Option.{slice_get-get_or}
use Rattle.code_isa.specs.declared.machine.Reg.{Reg}
use Rattle.code_isa.specs.Slots.{first_register, first_instruction, given_widths}
use Rattle.wrapper_core.proofs.Blocking.{register_width, width_before, read_width, given_size}
use Rattle.wrapper_core.proofs.Cores.{outputs_after}
use Rattle.wrapper_core.proofs.world.World.reg.Goals as goal

pub returns-clause-width : goal.returns-clause-width
returns-clause-width g c =
    let b = c.args.self.now.block in
    let m = b.code.value in
    let k = c.args.k in
    let block = c.requires.world.core.block in
    let regs = map (λ (r : Reg). r.width) m.regs in
    let s = c.first_register.result + k in
    let place : s ≡ first_register m + k = ap (λ n. n + k) c.first_register.ensures in
    let low : first_register m + k < first_instruction m = omega (arith, c.requires.register, outputs_after m) in
    let inside : s < length b.given.items = omega (arith, place, low, given_size b block) in
    let width : slice_index regs k ≡ c.index.result.now.width =
    sym (register_width m k c.requires.register) ∙ width_before m (first_register m + k) low ∙ ap (slice_index (given_widths m)) (sym place)
    ∙ ap (λ ws. slice_index ws s) (sym block.given_wide) ∙ read_width b.given.items s c.index.result.now inside c.index.ensures in
    slice_get-get_or regs k 0 (omega (arith, c.requires.register, length-map m.regs (λ (r : Reg). r.width))) ∙ ap (λ n. Some n) width
