use Rattle.const_eval.proofs.NetWords.{words_of_nets_lem}
use Rattle.const_eval.proofs.law.words_of_nets.Goals as goal

pub returns : goal.returns
returns c = words_of_nets_lem
