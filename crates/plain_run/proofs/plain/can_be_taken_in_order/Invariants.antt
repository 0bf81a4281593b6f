use Rattle.std.proofs.Common.{drop}
use Rattle.plain_run.proofs.Turns.{AreTaken}
use Rattle.plain_run.proofs.plain.can_be_taken_in_order.Given as goal

-- the drivers from this one on are in order, and the marks are theirs
abbrev pub invariant-loop-turn : goal.invariant-loop-turn
invariant-loop-turn l = AreTaken l.vars (drop l.turn l.drivers) l.written.items l.driven.items
