use Rattle.plain_run.proofs.There.{plain_solution as law}
use Rattle.plain_run.proofs.law.plain_solution.Goals as goal

pub returns : goal.returns
returns c = law
