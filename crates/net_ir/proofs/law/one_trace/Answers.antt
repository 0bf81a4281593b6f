use Rattle.net_ir.proofs.Unique.{one_trace as one}
use Rattle.net_ir.proofs.law.one_trace.Goals as goal

pub returns : goal.returns
returns c = one
