use Rattle.io_edge.proofs.NumberedCalls.{one_more_call}
use Rattle.io_edge.proofs.calls.is_to_fail.Goals as goal

pub returns-in-Some-clause-faults : goal.returns-in-Some-clause-faults
returns-in-Some-clause-faults c = one_more_call _ _ _ _ c.in-Some.ensures.1 c.contains.ensures.value
