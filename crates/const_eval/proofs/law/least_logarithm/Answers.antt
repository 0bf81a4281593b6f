use Rattle.const_eval.proofs.Least.{logarithm_reaches, logarithm_least}
use Rattle.const_eval.proofs.law.least_logarithm.Goals as goal

pub returns : goal.returns
returns c = record { reaches = logarithm_reaches; least = logarithm_least }
