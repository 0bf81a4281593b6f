use Rattle.std.proofs.Common.{◌∙◌, sym, ap, subst}
use Rattle.code_isa.specs.declared.machine.Machine.{Machine}
use Rattle.wrapper_core.specs.code.Samplings.{AreClocked}
use Rattle.wrapper_core.proofs.sampling.Sampling.sample.Goals as goal

pub sample_all-requires-clause-rows : goal.sample_all-requires-clause-rows
sample_all-requires-clause-rows c =
    subst (λ regs. AreClocked regs c.as_slice-rows.result.now) (sym (c.as_slice-regs.ensures ∙ ap (λ (x : Machine). x.regs) c.machine.ensures.same))
    (subst (AreClocked c.args.m.now.regs) (sym c.as_slice-rows.ensures.value) c.requires.sampling.rows)
