use Rattle.code_isa.proofs.One.{one_settled as one}
use Rattle.code_isa.proofs.law.one_settled.Goals as goal

pub returns : goal.returns
returns c = one
