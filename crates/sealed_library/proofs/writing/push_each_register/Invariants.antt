use Rattle.std.proofs.Common.{take, map}
use Rattle.sealed_library.specs.Fields.{repeated}
use Rattle.sealed_library.specs.Version1.{register_field, register_fields}
use Rattle.sealed_library.specs.code.Writing.{Writes}
use Rattle.sealed_library.proofs.writing.push_each_register.Given as goal

-- what is written is the first items
abbrev pub invariant-loop-item : goal.invariant-loop-item
invariant-loop-item l = Writes (repeated register_field l.item-index) l.fn.into.items l.into.items (take l.item-index (map register_fields l.regs))
