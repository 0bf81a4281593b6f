use Rattle.sealed_library.proofs.Whole.{one_machine_spelled}
use Rattle.sealed_library.proofs.law.one_machine.Goals as goal

pub returns : goal.returns
returns c = one_machine_spelled
