use Rattle.std.proofs.Common.{take}
use Rattle.std.specs.Int.{w16}
use Rattle.sealed_library.specs.Fields.{number, repeated}
use Rattle.sealed_library.specs.code.Writing.{Writes}
use Rattle.sealed_library.proofs.writing.push_positions.Given as goal

-- what is written is the first items
abbrev pub invariant-loop-position : goal.invariant-loop-position
invariant-loop-position l = Writes (repeated (number w16) l.position-index) l.fn.into.items l.into.items (take l.position-index l.row)
