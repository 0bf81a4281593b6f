use Rattle.std.proofs.Common.{take}
use Rattle.sealed_library.specs.Fields.{repeated}
use Rattle.sealed_library.specs.Version1.{row_field}
use Rattle.sealed_library.specs.code.Writing.{Writes}
use Rattle.sealed_library.proofs.writing.push_rows.Given as goal

-- what is written is the first items
abbrev pub invariant-loop-row : goal.invariant-loop-row
invariant-loop-row l = Writes (repeated row_field l.row-index) l.fn.into.items l.into.items (take l.row-index l.rows)
