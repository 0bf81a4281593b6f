use Rattle.net_ir.proofs.Unique.{one_next as one}
use Rattle.net_ir.proofs.law.one_next.Goals as goal

pub returns : goal.returns
returns c = one
