use Rattle.std.proofs.Common.{take}
use Rattle.code_isa.specs.Activity.{MarksRow}
use Rattle.code_isa.proofs.activity.mark_row.Given as goal

abbrev pub invariant-loop-reader : goal.invariant-loop-reader
invariant-loop-reader l = MarksRow l.first (take l.reader-index l.row) l.fn.marks l.marks
