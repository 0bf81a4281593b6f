use Rattle.net_ir.proofs.Benches.{benched_run as law}
use Rattle.net_ir.proofs.law.benched_run.Goals as goal

pub returns : goal.returns
returns c = law
