use Rattle.std.proofs.Common.{take, map}
use Rattle.sealed_library.specs.Fields.{repeated}
use Rattle.sealed_library.specs.Version1.{child_field, child_fields}
use Rattle.sealed_library.specs.code.Writing.{Writes}
use Rattle.sealed_library.proofs.writing.push_each_child.Given as goal

-- what is written is the first items
abbrev pub invariant-loop-item : goal.invariant-loop-item
invariant-loop-item l = Writes (repeated child_field l.item-index) l.fn.into.items l.into.items (take l.item-index (map child_fields l.kids))
