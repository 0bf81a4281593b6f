use Rattle.net_ir.proofs.Unique.{one_run as law}
use Rattle.net_ir.proofs.law.one_run.Goals as goal

pub returns : goal.returns
returns c = law
