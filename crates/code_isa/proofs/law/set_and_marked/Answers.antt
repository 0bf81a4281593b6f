use Rattle.code_isa.proofs.Marking.{set_and_marked}
use Rattle.code_isa.proofs.law.set_and_marked.Goals as goal

pub returns : goal.returns
returns c = set_and_marked
