use Rattle.std.proofs.Common.{◌-◌, length}
use Rattle.io_edge.proofs.OfferedSoFar.{OfferedSoFar}
use Rattle.io_edge.proofs.offering.offer.Given as goal

abbrev pub invariant-loop-done : goal.invariant-loop-done
invariant-loop-done g l =
    OfferedSoFar g.K.Sink.written g.K.Sink.faults l.initial.sink l.sink l.piece l.done

abbrev pub decreases-loop-done : goal.decreases-loop-done
decreases-loop-done g l = length l.piece - l.done
