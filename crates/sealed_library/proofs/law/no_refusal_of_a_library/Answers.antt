use Rattle.sealed_library.proofs.Whole.{never_both}
use Rattle.sealed_library.proofs.law.no_refusal_of_a_library.Goals as goal

pub returns : goal.returns
returns c = never_both
