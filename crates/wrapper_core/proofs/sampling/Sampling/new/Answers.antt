use Rattle.std.proofs.Common.{◌≡◌, ◌∙◌, length, sym, ap, subst}
use Rattle.std.specs.Prelude.{slice_index}
use Rattle.std.proofs.lemmas.List.{length-map}
use Rattle.bit_ops.specs.Lists.{words, widths}
use Rattle.code_isa.specs.declared.machine.Machine.{Machine}
use Rattle.code_isa.specs.declared.machine.Reg.{Reg}
use Rattle.wrapper_core.specs.code.Samplings.{AreClocked}
use Rattle.wrapper_core.proofs.Blocking.{widths_each}
use Rattle.wrapper_core.proofs.sampling.Sampling.new.Goals as goal

pub returns-clause-sampling : goal.returns-clause-sampling
returns-clause-sampling c =
    let m = c.args.m.now in
    let registers = c.args.registers.now in
    let size : length registers ≡ length m.regs = sym (widths_each registers) ∙ ap length c.requires.wide ∙ length-map m.regs (λ (x : Reg). x.width) in
    record {
      rows_sized = c.in_ok-rows.ensures.sized ∙ c.requires.clocks;
      rows = subst (λ regs. AreClocked regs c.in_ok-rows.rows.items) (c.as_slice.ensures ∙ ap (λ (x : Machine). x.regs) c.machine.ensures.same) c.in_ok-rows.ensures.clocked;
      wide = ap widths c.in_ok-next.ensures.items ∙ c.requires.wide;
      due_sized = c.in_ok-due.ensures.size ∙ size;
      kept = λ r clear. ap (λ xs. slice_index (words xs) r) c.in_ok-next.ensures.items;
    }
