use Rattle.net_ir.proofs.Unique.{one_sample as one}
use Rattle.net_ir.proofs.law.one_sample.Goals as goal

pub returns : goal.returns
returns c = one
