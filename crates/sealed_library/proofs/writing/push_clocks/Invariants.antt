use Rattle.std.proofs.Common.{take}
use Rattle.std.specs.Int.{w32}
use Rattle.sealed_library.specs.Fields.{number, repeated}
use Rattle.sealed_library.specs.code.Writing.{Writes}
use Rattle.sealed_library.proofs.writing.push_clocks.Given as goal

-- what is written is the first items
abbrev pub invariant-loop-clock : goal.invariant-loop-clock
invariant-loop-clock l = Writes (repeated (number w32) l.clock-index) l.fn.into.items l.into.items (take l.clock-index l.clocks)
