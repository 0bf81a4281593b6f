use Rattle.clock_domains.proofs.Alone.{without_instances}
use Rattle.clock_domains.proofs.law.without_instances.Goals as goal

pub returns : goal.returns
returns c = without_instances
