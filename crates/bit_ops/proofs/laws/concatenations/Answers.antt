use Rattle.bit_ops.proofs.Algebra.{concat-slices, concat-concat}
use Rattle.bit_ops.proofs.laws.concatenations.Goals as goal

pub returns-clause-of_slices : goal.returns-clause-of_slices
returns-clause-of_slices c = concat-slices

pub returns-clause-of_concat : goal.returns-clause-of_concat
returns-clause-of_concat c = concat-concat
