use Rattle.std.proofs.Common.{◌≤◌}
use Rattle.io_edge.proofs.tests.count_left.Given as goal

abbrev pub invariant-loop : goal.invariant-loop
invariant-loop g l =
    g.S.Source.same_ground l.initial.source l.source × (g.S.Source.faults l.initial.source ≤ g.S.Source.faults l.source)
