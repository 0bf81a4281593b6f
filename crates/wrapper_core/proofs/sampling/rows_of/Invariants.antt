use Rattle.std.proofs.Common.{◌≡◌, length}
use Rattle.wrapper_core.proofs.Clocking.{AreClockedUpTo}
use Rattle.wrapper_core.proofs.sampling.rows_of.Given as goal

abbrev pub invariant-loop-r : goal.invariant-loop-r
invariant-loop-r l = record {
  sized : length l.rows.items ≡ l.clocks;
  clocked : AreClockedUpTo l.regs l.rows.items l.r;
}
