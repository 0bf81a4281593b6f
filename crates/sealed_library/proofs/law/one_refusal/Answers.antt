use Rattle.sealed_library.proofs.Whole.{one_refusal_told}
use Rattle.sealed_library.proofs.law.one_refusal.Goals as goal

pub returns : goal.returns
returns c = one_refusal_told
