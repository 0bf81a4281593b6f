use Rattle.machine_text.specs.Trials.{IsTrial}
use Rattle.machine_trials.proofs.report.try_changes.Given as goal

abbrev pub invariant-loop : goal.invariant-loop
invariant-loop l = IsTrial l.trial
