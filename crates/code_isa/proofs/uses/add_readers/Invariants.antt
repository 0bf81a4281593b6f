use Rattle.std.proofs.Common.{take}
use Rattle.code_isa.specs.Uses.{AddsReader}
use Rattle.code_isa.proofs.uses.add_readers.Given as goal

abbrev pub invariant-loop-slot : goal.invariant-loop-slot
invariant-loop-slot l = AddsReader l.fn.rows.items l.rows.items (take l.slot-index l.slot-items) l.fn.reader
