use Rattle.const_eval.proofs.Constants.{constants_alone_lem}
use Rattle.const_eval.proofs.law.constants_alone.Goals as goal

pub returns : goal.returns
returns c = constants_alone_lem
