use Rattle.net_values.proofs.Targets.{target_within, target_may, target_named, target_fixed, writes_local, writes_constant}
use Rattle.net_values.proofs.law.writes_of_targets.Goals as goal

pub returns-clause-within : goal.returns-clause-within
returns-clause-within c = target_within

pub returns-clause-may : goal.returns-clause-may
returns-clause-may c = target_may

pub returns-clause-named : goal.returns-clause-named
returns-clause-named c = target_named

pub returns-clause-fixed : goal.returns-clause-fixed
returns-clause-fixed c = λ vars u target word x k fixed may. target_fixed vars u target fixed word x k may

pub returns-clause-reads : goal.returns-clause-reads
returns-clause-reads c = writes_local

pub returns-clause-constant : goal.returns-clause-constant
returns-clause-constant c = writes_constant
