use Rattle.machine_text.specs.Trials.{IsTrial}
use Rattle.machine_trials.proofs.measure.run_marked_in_time.Given as goal

abbrev pub invariant-loop-round : goal.invariant-loop-round
invariant-loop-round g l = IsTrial l.trial
