use Rattle.std.proofs.Common.{take}
use Rattle.sealed_library.specs.Fields.{repeated}
use Rattle.sealed_library.specs.Version1.{slot_field}
use Rattle.sealed_library.specs.code.Writing.{Writes}
use Rattle.sealed_library.proofs.writing.push_slots.Given as goal

-- what is written is the first items
abbrev pub invariant-loop-slot : goal.invariant-loop-slot
invariant-loop-slot l = Writes (repeated slot_field l.slot-index) l.fn.into.items l.into.items (take l.slot-index l.slots)
