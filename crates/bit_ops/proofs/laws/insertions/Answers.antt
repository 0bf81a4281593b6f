use Rattle.bit_ops.proofs.Algebra.{slice-insert, slice-insert_below, slice-insert_above, insert-slice, insert-insert, insert-insert_apart, insert_whole, insert-concat}
use Rattle.bit_ops.proofs.laws.insertions.Goals as goal

pub returns-clause-slice_inside : goal.returns-clause-slice_inside
returns-clause-slice_inside c = slice-insert

pub returns-clause-slice_below : goal.returns-clause-slice_below
returns-clause-slice_below c = slice-insert_below

pub returns-clause-slice_above : goal.returns-clause-slice_above
returns-clause-slice_above c = slice-insert_above

pub returns-clause-of_slice : goal.returns-clause-of_slice
returns-clause-of_slice c = insert-slice

pub returns-clause-twice : goal.returns-clause-twice
returns-clause-twice c = insert-insert

pub returns-clause-apart : goal.returns-clause-apart
returns-clause-apart c = insert-insert_apart

pub returns-clause-whole : goal.returns-clause-whole
returns-clause-whole c = insert_whole

pub returns-clause-as_concat : goal.returns-clause-as_concat
returns-clause-as_concat c = insert-concat
