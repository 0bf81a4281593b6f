use Rattle.lib_create.proofs.Ending.{outcome_once}
use Rattle.lib_create.proofs.law.one_outcome.Goals as goal

pub returns : goal.returns
returns c = outcome_once c.one_end.ensures
