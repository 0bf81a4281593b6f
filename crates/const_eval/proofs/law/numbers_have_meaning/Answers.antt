use Rattle.const_eval.proofs.Numbers.{numbers_have_meaning_lem}
use Rattle.const_eval.proofs.law.numbers_have_meaning.Goals as goal

pub returns : goal.returns
returns c = numbers_have_meaning_lem
