use Rattle.const_eval.proofs.apply.unary.Goals as goal

pub returns-in-Reduction : goal.returns-in-Reduction
returns-in-Reduction c = rw c.in-Reduction.is c.reduced.ensures
