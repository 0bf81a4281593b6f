use Rattle.code_isa.proofs.Existing.{settled_exists as one}
use Rattle.code_isa.proofs.law.settled_exists.Goals as goal

pub returns : goal.returns
returns c = one
