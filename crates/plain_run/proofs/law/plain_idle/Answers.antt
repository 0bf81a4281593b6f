use Rattle.plain_run.proofs.Idle.{plain_idle as law}
use Rattle.plain_run.proofs.law.plain_idle.Goals as goal

pub returns : goal.returns
returns c = law
