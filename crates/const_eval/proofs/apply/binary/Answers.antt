use Rattle.const_eval.proofs.apply.binary.Goals as goal

pub returns-in-Comparison : goal.returns-in-Comparison
returns-in-Comparison c = rw c.in-Comparison.is c.compared.ensures
