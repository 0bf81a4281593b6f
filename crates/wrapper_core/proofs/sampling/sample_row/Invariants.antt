use Rattle.std.proofs.Common.{take}
use Rattle.wrapper_core.specs.code.Samplings.{SamplesRow}
use Rattle.wrapper_core.proofs.sampling.sample_row.Given as goal

abbrev pub invariant-loop-r : goal.invariant-loop-r
invariant-loop-r l = SamplesRow (take l.r-index l.row) l.regs l.slots l.from l.to l.fn.next.items l.next.items l.fn.due l.due
