use Rattle.std.proofs.Common.{◌≡◌, sym, ◌∙◌, ap, subst}
use Rattle.std.specs.List.{AllByRecursion}
use Rattle.bit_ops.specs.Lists.{words}
use Rattle.net_ir.specs.Lawful.{IsLawfulDriver}
use Rattle.net_ir.specs.Solution.{Solves}
use Rattle.plain_run.specs.Plain.{IsTimely}
use Rattle.plain_run.specs.code.Pass.{run, sources_of, state_of}
use Rattle.plain_run.proofs.Solved.{run_solves}
use Rattle.plain_run.proofs.evaluator.solve.Goals as goal

pub drive_all-requires-clause-lawful : goal.drive_all-requires-clause-lawful
drive_all-requires-clause-lawful c =
    let spec = c.args.spec.now in
    subst (λ vs. AllByRecursion (IsLawfulDriver vs) c.as_slice-3.result.now) (sym c.as_slice-2.ensures)
    (subst (AllByRecursion (IsLawfulDriver spec.vars)) (sym c.as_slice-3.ensures) c.requires.plain.lawful.drivers)

pub drive_all-requires-clause-timely : goal.drive_all-requires-clause-timely
drive_all-requires-clause-timely c = subst (AllByRecursion IsTimely) (sym c.as_slice-3.ensures) c.requires.plain.timely

pub returns-clause-solved : goal.returns-clause-solved
returns-clause-solved c =
    let spec = c.args.spec.now in
    let vars = spec.vars in
    let inputs = c.args.inputs.now in
    let held = c.args.registers.now in
    let stands : words c.drive_all.new.values ≡ run vars spec.drivers (words (sources_of vars inputs held)) =
    c.drive_all.ensures.words
    ∙ ap (λ vs. run vs c.as_slice-3.result.now (words c.set_sources.new.values)) c.as_slice-2.ensures
    ∙ ap (λ ds. run vars ds (words c.set_sources.new.values)) c.as_slice-3.ensures
    ∙ ap (λ xs. run vars spec.drivers (words xs)) (c.set_sources.ensures.sources ∙ ap (λ vs. sources_of vs inputs held) c.as_slice.ensures) in
    subst (Solves spec (state_of spec inputs held)) (sym stands)
    (run_solves spec inputs held c.requires.plain c.requires.inputs c.requires.registers c.requires.initial)
