use Rattle.std.proofs.Common.{◌≡◌, sym, ◌∙◌, ap, subst}
use Rattle.std.specs.List.{AllByRecursion, flat_map}
use Rattle.bit_ops.specs.Lists.{words}
use Rattle.net_ir.specs.Value.{widths_of}
use Rattle.net_ir.specs.Target.{overlaid}
use Rattle.net_ir.specs.Lawful.{IsLawfulDriver}
use Rattle.net_ir.specs.Run.{sampled, all_sampled}
use Rattle.net_ir.specs.Register.{registers_of, register_words}
use Rattle.net_ir.specs.Stepping.{Samples}
use Rattle.plain_run.specs.code.Pass.{KeepsInitial}
use Rattle.plain_run.proofs.Passes.{all_at, long_words}
use Rattle.plain_run.proofs.NextWords.{overlaid_more, overlaid_all, samples_next, initial_next}
use Rattle.plain_run.proofs.sampling.sample.Goals as goal

pub sample_driver-requires-clause-lawful : goal.sample_driver-requires-clause-lawful
sample_driver-requires-clause-lawful c =
    let spec = c.args.spec.now in
    subst (λ vs. IsLawfulDriver vs c.driver-item.result) (sym c.as_slice.ensures)
    (all_at (IsLawfulDriver spec.vars) c.as_slice-driver-items.result.now c.loop-driver.driver-index c.driver-item.result
    (subst (AllByRecursion (IsLawfulDriver spec.vars)) (sym c.as_slice-driver-items.ensures) c.requires.plain.lawful.drivers)
    c.loop-driver-test.true c.driver-item.is)

pub loop-driver-preserved : goal.loop-driver-preserved
loop-driver-preserved c =
    let spec = c.args.spec.now in
    let u = words c.args.values.now in
    let before = words c.args.before.now in
    let after = words c.args.after.now in
    record {
      same_widths = c.sample_driver.ensures.widths ∙ ap widths_of c.as_slice.ensures;
      same_words = overlaid_more (sampled spec.vars u before after) c.as_slice-driver-items.result.now c.loop-driver.driver-index c.driver-item.result
          (words c.loop-driver.registers) (words c.sample_driver.new.registers) c.loop-driver-test.true c.driver-item.is
          (c.sample_driver.ensures.words
          ∙ ap (λ vs. overlaid (words c.loop-driver.registers) (sampled vs u before after c.driver-item.result)) c.as_slice.ensures)
          ∙ c.loop-driver.invariant.same_words;
    }

pub returns-clause-samples : goal.returns-clause-samples
returns-clause-samples c =
    let spec = c.args.spec.now in
    let u = words c.args.values.now in
    let before = words c.args.before.now in
    let after = words c.args.after.now in
    let kept = words c.args.registers.now in
    let end : words c.loop-driver.registers ≡ overlaid kept (all_sampled spec u before after) =
    sym (overlaid_all (sampled spec.vars u before after) c.as_slice-driver-items.result.now c.loop-driver.driver-index (words c.loop-driver.registers)
    c.loop-driver-test.false)
    ∙ c.loop-driver.invariant.same_words
    ∙ ap (λ drivers. overlaid kept (flat_map (sampled spec.vars u before after) drivers)) c.as_slice-driver-items.ensures in
    subst (λ next. Samples spec u before after (register_words (registers_of spec) kept) (register_words (registers_of spec) next)) (sym end)
    (samples_next spec u before after kept (long_words c.args.registers.now spec.vars c.requires.registers))

pub returns-clause-initial : goal.returns-clause-initial
returns-clause-initial c =
    let spec = c.args.spec.now in
    let u = words c.args.values.now in
    let before = words c.args.before.now in
    let after = words c.args.after.now in
    let kept = words c.args.registers.now in
    let end : words c.loop-driver.registers ≡ overlaid kept (all_sampled spec u before after) =
    sym (overlaid_all (sampled spec.vars u before after) c.as_slice-driver-items.result.now c.loop-driver.driver-index (words c.loop-driver.registers)
    c.loop-driver-test.false)
    ∙ c.loop-driver.invariant.same_words
    ∙ ap (λ drivers. overlaid kept (flat_map (sampled spec.vars u before after) drivers)) c.as_slice-driver-items.ensures in
    λ initial. subst (KeepsInitial spec) (sym end)
    (initial_next spec u before after kept (long_words c.args.registers.now spec.vars c.requires.registers) initial)
