use Rattle.machine_text.specs.Trials.{IsTrial}
use Rattle.machine_trials.proofs.measure.run_whole_in_time.Given as goal

abbrev pub invariant-loop : goal.invariant-loop
invariant-loop g l = IsTrial l.trial
